-- An equaliser by the two numbers of each section is one by index of its epoch.
use Rattle.std.proofs.Common.{◌≡◌, refl, sym, ap, ◌∙◌, ℕ, zero, suc, ◌+◌, ◌-◌, ◌*◌, ◌<◌, ◌≤◌, List, [], ◌∷◌, ◌++◌, map, length, get_or, Bool, true, false, cond, arith, ℤ, pos, ◌+ℤ◌, ◌*ℤ◌}
use Rattle.std.proofs.Math.IntN.{+ℤ_assoc, +ℤ_comm}
use Rattle.std.proofs.lemmas.Bool.{cond-true, cond-false, lt-leb, le-leb, leb-true, leb-false}
use Rattle.std.specs.Prelude.{nat_le}
use Rattle.std.specs.List.{range_with_len}
use Rattle.std.proofs.lemmas.List.{length-append, length-map, append_assoc, append-nil, map-append, get_or_append_left, drop_at}
use Rattle.std.proofs.Math.Seq.{get_or-append_seam}
use Rattle.std.proofs.lemmas.List.FromFn.{length-map-range_with_len, map-range_with_len_more}
use Rattle.sof_base.proofs.SampleLaws.{map-range_same}
use Rattle.sof_base.specs.Samples.{Frame, sat, rounded, sample_of}
use Rattle.sof_base.specs.Equations.{Section, before, inner_value, inner_values, section_output, after_section, after_sections}
use Rattle.stream_law.specs.Equaliser.{sections_of, next_inner, next_numbers, passed_sections, passed_channels, passed_frames, numbers_after}
use Rattle.stream_law.specs.Epochs.{channel_of, channel_out, equalised, section_history, sections_history, history_from, history_of}

-- ---- sums

regroup_five : (a b c d e : ℤ) → ((((a +ℤ b) +ℤ c) +ℤ d) +ℤ e) ≡ (a +ℤ (((b +ℤ c) +ℤ d) +ℤ e))
regroup_five a b c d e = simp +ℤ_assoc

regroup_four : (a b c d : ℤ) → (((a +ℤ b) +ℤ c) +ℤ d) ≡ ((a +ℤ c) +ℤ (b +ℤ d))
regroup_four a b c d = ap (λ x. x +ℤ d) (+ℤ_assoc a b c ∙ ap (λ x. a +ℤ x) (+ℤ_comm b c) ∙ sym (+ℤ_assoc a c b)) ∙ +ℤ_assoc (a +ℤ c) b d

-- ---- one section

length-inner : (s : Section) (xs : List ℤ) (n : ℕ) → length (inner_values s xs n) ≡ n
length-inner s xs zero = refl
length-inner s xs (suc n) = let ws = inner_values s xs n in omega (arith, length-append ws (inner_value s xs ws n ∷ []), length-inner s xs n)

length-after_section : (s : Section) (xs : List ℤ) → length (after_section s xs) ≡ length xs
length-after_section s xs = length-map (inner_values s xs (length xs)) (section_output s) ∙ length-inner s xs (length xs)

length-after_sections : (ss : List Section) (xs : List ℤ) → length (after_sections ss xs) ≡ length xs
length-after_sections [] xs = refl
length-after_sections (s ∷ ss) xs = length-after_sections ss (after_section s xs) ∙ length-after_section s xs

before-append : (xs ys : List ℤ) (i d : ℕ) → i < length xs → before (xs ++ ys) i d ≡ before xs i d
before-append xs ys i d low = ap (λ v. cond (nat_le d i) v (pos 0)) (get_or_append_left xs ys (pos 0) (i - d) (omega arith))

inner-append : (s : Section) (xs ys : List ℤ) (n : ℕ) → n ≤ length xs → inner_values s (xs ++ ys) n ≡ inner_values s xs n
inner-append s xs ys zero low = refl
inner-append s xs ys (suc n) low =
    ap (λ ws. ws ++ inner_value s (xs ++ ys) ws n ∷ []) (inner-append s xs ys n (omega arith))
    ∙ ap (λ (v : ℤ × (ℤ × ℤ)). inner_values s xs n ++ sat 32 (rounded 30 (((((s.b0 *ℤ v.0) +ℤ (s.b1 *ℤ v.1.0)) +ℤ (s.b2 *ℤ v.1.1)) +ℤ (s.a1 *ℤ before (inner_values s xs n) n 1)) +ℤ (s.a2 *ℤ before (inner_values s xs n) n 2))) ∷ [])
    (λ i. (before-append xs ys n 0 (omega arith) i, (before-append xs ys n 1 (omega arith) i, before-append xs ys n 2 (omega arith) i)))

-- the values at the end of a list with one more
before_now : (xs : List ℤ) (x : ℤ) (n : ℕ) → length xs ≡ n → before (xs ++ x ∷ []) n 0 ≡ x
before_now xs x n e = cond-true (nat_le 0 n) (get_or (xs ++ x ∷ []) (n - 0) (pos 0)) (pos 0) (le-leb 0 n (omega arith)) ∙ ap (λ i. get_or (xs ++ x ∷ []) i (pos 0)) (let k : n - 0 ≡ length xs = omega arith in k) ∙ get_or-append_seam xs x [] (pos 0)

before_earlier : (xs : List ℤ) (x : ℤ) (n d : ℕ) → length xs ≡ n → 1 ≤ d → before (xs ++ x ∷ []) n d ≡ before xs n d
before_earlier xs x n d e one = by_test (nat_le d n) refl
  where
    by_test : (h : Bool) → nat_le d n ≡ h → cond h (get_or (xs ++ x ∷ []) (n - d) (pos 0)) (pos 0) ≡ cond h (get_or xs (n - d) (pos 0)) (pos 0)
    by_test true h = let low : d ≤ n = leb-true d n h in get_or_append_left xs (x ∷ []) (pos 0) (n - d) (omega arith)
    by_test false h = refl

before_last : (xs : List ℤ) (x : ℤ) (n : ℕ) → length xs ≡ n → before (xs ++ x ∷ []) (suc n) 1 ≡ x
before_last xs x n e = cond-true (nat_le 1 (suc n)) (get_or (xs ++ x ∷ []) (suc n - 1) (pos 0)) (pos 0) (le-leb 1 (suc n) (omega arith)) ∙ ap (λ i. get_or (xs ++ x ∷ []) i (pos 0)) (let k : suc n - 1 ≡ length xs = omega arith in k) ∙ get_or-append_seam xs x [] (pos 0)

before_second : (xs : List ℤ) (x : ℤ) (n : ℕ) → length xs ≡ n → before (xs ++ x ∷ []) (suc n) 2 ≡ before xs n 1
before_second xs x n e = by_test (nat_le 1 n) refl
  where
    by_test : (h : Bool) → nat_le 1 n ≡ h → before (xs ++ x ∷ []) (suc n) 2 ≡ cond h (get_or xs (n - 1) (pos 0)) (pos 0)
    by_test true h = let low : 1 ≤ n = leb-true 1 n h in
        cond-true (nat_le 2 (suc n)) (get_or (xs ++ x ∷ []) (suc n - 2) (pos 0)) (pos 0) (le-leb 2 (suc n) (omega arith))
        ∙ ap (λ i. get_or (xs ++ x ∷ []) i (pos 0)) (let k : suc n - 2 ≡ n - 1 = omega arith in k) ∙ get_or_append_left xs (x ∷ []) (pos 0) (n - 1) (omega arith)
    by_test false h = let low : n < 1 = leb-false 1 n h in cond-false (nat_le 2 (suc n)) (get_or (xs ++ x ∷ []) (suc n - 2) (pos 0)) (pos 0) (lt-leb 2 (suc n) (omega arith))

module _ (s : Section) (xs : List ℤ) (x : ℤ) where
  abbrev count : ℕ
  count = length xs

  abbrev inner : List ℤ
  inner = inner_values s xs count

  -- the section's first number, and its second
  abbrev first : ℤ
  first = ((((s.b1 *ℤ before xs count 1) +ℤ (s.b2 *ℤ before xs count 2)) +ℤ (s.a1 *ℤ before inner count 1)) +ℤ (s.a2 *ℤ before inner count 2))

  abbrev second : ℤ
  second = ((s.b2 *ℤ before xs count 1) +ℤ (s.a2 *ℤ before inner count 1))

  abbrev next : ℤ
  next = next_inner s first x

  -- the next inner value by index is that by the first number
  inner_next : inner_value s (xs ++ x ∷ []) inner count ≡ next
  inner_next =
      ap (λ (v : ℤ × (ℤ × ℤ)). sat 32 (rounded 30 (((((s.b0 *ℤ v.0) +ℤ (s.b1 *ℤ v.1.0)) +ℤ (s.b2 *ℤ v.1.1)) +ℤ (s.a1 *ℤ before inner count 1)) +ℤ (s.a2 *ℤ before inner count 2))))
      (λ i. (before_now xs x count refl i, (before_earlier xs x count 1 refl (omega arith) i, before_earlier xs x count 2 refl (omega arith) i)))
      ∙ ap (λ z. sat 32 (rounded 30 z)) (regroup_five (s.b0 *ℤ x) (s.b1 *ℤ before xs count 1) (s.b2 *ℤ before xs count 2) (s.a1 *ℤ before inner count 1) (s.a2 *ℤ before inner count 2))

  inner_more : inner_values s (xs ++ x ∷ []) (suc count) ≡ inner ++ next ∷ []
  inner_more =
      ap (λ ws. ws ++ inner_value s (xs ++ x ∷ []) ws count ∷ []) (inner-append s xs (x ∷ []) count (omega arith))
      ∙ ap (λ w. inner ++ w ∷ []) inner_next

  count_more : length (xs ++ x ∷ []) ≡ suc count
  count_more = omega (arith, length-append xs (x ∷ []))

  after_section-more : after_section s (xs ++ x ∷ []) ≡ after_section s xs ++ section_output s next ∷ []
  after_section-more =
      ap (λ k. map (section_output s) (inner_values s (xs ++ x ∷ []) k)) count_more
      ∙ ap (map (section_output s)) inner_more
      ∙ map-append (section_output s) inner (next ∷ [])

  section_history-more : section_history s (xs ++ x ∷ []) ≡ next_numbers s second x next
  section_history-more =
      ap (λ (v : ℕ × List ℤ). ((((s.b1 *ℤ before (xs ++ x ∷ []) v.0 1) +ℤ (s.b2 *ℤ before (xs ++ x ∷ []) v.0 2)) +ℤ (s.a1 *ℤ before v.1 v.0 1)) +ℤ (s.a2 *ℤ before v.1 v.0 2)) ∷ ((s.b2 *ℤ before (xs ++ x ∷ []) v.0 1) +ℤ (s.a2 *ℤ before v.1 v.0 1)) ∷ [])
      (λ i. (count_more i, (ap (inner_values s (xs ++ x ∷ [])) count_more ∙ inner_more) i))
      ∙ ap (λ (v : (ℤ × ℤ) × (ℤ × ℤ)). ((((s.b1 *ℤ v.0.0) +ℤ (s.b2 *ℤ v.0.1)) +ℤ (s.a1 *ℤ v.1.0)) +ℤ (s.a2 *ℤ v.1.1)) ∷ ((s.b2 *ℤ v.0.0) +ℤ (s.a2 *ℤ v.1.0)) ∷ [])
      (λ i. ((before_last xs x count refl i, before_second xs x count refl i), (before_last inner next count (length-inner s xs count) i, before_second inner next count (length-inner s xs count) i)))
      ∙ ap (λ h. h ∷ ((s.b2 *ℤ x) +ℤ (s.a2 *ℤ next)) ∷ []) (regroup_four (s.b1 *ℤ x) (s.b2 *ℤ before xs count 1) (s.a1 *ℤ next) (s.a2 *ℤ before inner count 1))

-- ---- sections in series

length-sections_history : (ss : List Section) (xs : List ℤ) → length (sections_history ss xs) ≡ 2 * length ss
length-sections_history [] xs = refl
length-sections_history (s ∷ ss) xs = let rest : length (sections_history ss (after_section s xs)) ≡ 2 * length ss = length-sections_history ss (after_section s xs) in omega arith

pub passed_sections-numbers : (ss : List Section) (xs : List ℤ) (more : List ℤ) (x : ℤ) → (passed_sections ss (sections_history ss xs ++ more) x).numbers ≡ sections_history ss (xs ++ x ∷ [])
passed_sections-numbers [] xs more x = refl
passed_sections-numbers (s ∷ ss) xs more x =
    ap (λ l. next_numbers s (second s xs x) x (next s xs x) ++ l) (passed_sections-numbers ss (after_section s xs) more (section_output s (next s xs x)))
    ∙ sym (ap (λ (v : List ℤ × List ℤ). v.0 ++ sections_history ss v.1) (λ i. (section_history-more s xs x i, after_section-more s xs x i)))

pub passed_sections-sample : (ss : List Section) (xs : List ℤ) (more : List ℤ) (x : ℤ) → after_sections ss (xs ++ x ∷ []) ≡ after_sections ss xs ++ (passed_sections ss (sections_history ss xs ++ more) x).sample ∷ []
passed_sections-sample [] xs more x = refl
passed_sections-sample (s ∷ ss) xs more x =
    ap (after_sections ss) (after_section-more s xs x)
    ∙ passed_sections-sample ss (after_section s xs) more (section_output s (next s xs x))

-- ---- channels and frames

channel_of-more : (k : ℕ) (epoch : List Frame) (f : Frame) → channel_of k (epoch ++ f ∷ []) ≡ channel_of k epoch ++ sample_of f k ∷ []
channel_of-more k epoch f = map-append (λ frame. sample_of frame k) epoch (f ∷ [])

length-channel_out : (blob : List ℕ) (k : ℕ) (epoch : List Frame) → length (channel_out blob k epoch) ≡ length epoch
length-channel_out blob k epoch = length-after_sections (sections_of blob k) (channel_of k epoch) ∙ length-map epoch (λ frame. sample_of frame k)

channel_out-more : (blob : List ℕ) (k : ℕ) (epoch : List Frame) (f : Frame) (more : List ℤ) → channel_out blob k (epoch ++ f ∷ []) ≡ channel_out blob k epoch ++ (passed_sections (sections_of blob k) (sections_history (sections_of blob k) (channel_of k epoch) ++ more) (sample_of f k)).sample ∷ []
channel_out-more blob k epoch f more = ap (after_sections (sections_of blob k)) (channel_of-more k epoch f) ∙ passed_sections-sample (sections_of blob k) (channel_of k epoch) more (sample_of f k)

passed_channels-numbers : (blob : List ℕ) (k left : ℕ) (epoch : List Frame) (f : Frame) → (passed_channels blob k left (history_from k blob epoch left) f).numbers ≡ history_from k blob (epoch ++ f ∷ []) left
passed_channels-numbers blob k zero epoch f = refl
passed_channels-numbers blob k (suc left) epoch f =
    ap (λ (v : List ℤ × List ℤ). v.0 ++ (passed_channels blob (k + 1) left v.1 f).numbers)
    (λ i. (
      passed_sections-numbers (sections_of blob k) (channel_of k epoch) (history_from (k + 1) blob epoch left) (sample_of f k) i,
      drop_at (sections_history (sections_of blob k) (channel_of k epoch)) (history_from (k + 1) blob epoch left) (2 * length (sections_of blob k)) (length-sections_history (sections_of blob k) (channel_of k epoch)) i,
    ))
    ∙ ap (λ (v : List ℤ × List ℤ). sections_history (sections_of blob k) v.0 ++ v.1) (λ i. (sym (channel_of-more k epoch f) i, passed_channels-numbers blob (k + 1) left epoch f i))

passed_channels-frame : (blob : List ℕ) (k left : ℕ) (epoch : List Frame) (f : Frame) → (passed_channels blob k left (history_from k blob epoch left) f).frame ≡ map (λ k. get_or (channel_out blob k (epoch ++ f ∷ [])) (length epoch) (pos 0)) (range_with_len k left)
passed_channels-frame blob k zero epoch f = refl
passed_channels-frame blob k (suc left) epoch f =
    ap (λ (v : ℤ × List ℤ). v.0 ∷ (passed_channels blob (k + 1) left v.1 f).frame)
    (λ i. (sample_is i, drop_at (sections_history (sections_of blob k) (channel_of k epoch)) (history_from (k + 1) blob epoch left) (2 * length (sections_of blob k)) (length-sections_history (sections_of blob k) (channel_of k epoch)) i))
    ∙ ap (λ l. get_or (channel_out blob k (epoch ++ f ∷ [])) (length epoch) (pos 0) ∷ l) (passed_channels-frame blob (k + 1) left epoch f)
  where
    sample_is : (passed_sections (sections_of blob k) (sections_history (sections_of blob k) (channel_of k epoch) ++ history_from (k + 1) blob epoch left) (sample_of f k)).sample ≡ get_or (channel_out blob k (epoch ++ f ∷ [])) (length epoch) (pos 0)
    sample_is =
        sym (get_or-append_seam (channel_out blob k epoch) (passed_sections (sections_of blob k) (sections_history (sections_of blob k) (channel_of k epoch) ++ history_from (k + 1) blob epoch left) (sample_of f k)).sample [] (pos 0))
        ∙ ap (λ (v : List ℤ × ℕ). get_or v.0 v.1 (pos 0)) (λ i. (sym (channel_out-more blob k epoch f (history_from (k + 1) blob epoch left)) i, length-channel_out blob k epoch i))

-- one more frame is the one that the numbers give
equalised-more : (blob : List ℕ) (channels : ℕ) (epoch : List Frame) (f : Frame) → equalised blob channels (epoch ++ f ∷ []) ≡ equalised blob channels epoch ++ (passed_channels blob 0 channels (history_of blob channels epoch) f).frame ∷ []
unfolding equalised history_of
equalised-more blob channels epoch f =
    ap (λ m. map (row (epoch ++ f ∷ [])) (range_with_len 0 m)) (let k : length (epoch ++ f ∷ []) ≡ length epoch + 1 = omega (arith, length-append epoch (f ∷ [])) in k)
    ∙ map-range_with_len_more (row (epoch ++ f ∷ [])) 0 (length epoch) (length epoch) (omega arith)
    ∙ ap (λ (v : List Frame × Frame). v.0 ++ v.1 ∷ []) (λ i. (map-range_same (row (epoch ++ f ∷ [])) (row epoch) 0 (length epoch) rows i, sym (passed_channels-frame blob 0 channels epoch f) i))
  where
    row : List Frame → ℕ → Frame
    row frames j = map (λ k. get_or (channel_out blob k frames) j (pos 0)) (range_with_len 0 channels)

    rows : (j : ℕ) → j < 0 + length epoch → row (epoch ++ f ∷ []) j ≡ row epoch j
    rows j low = ap (λ g. map g (range_with_len 0 channels)) (λ i k. (
        ap (λ l. get_or l j (pos 0)) (channel_out-more blob k epoch f [])
        ∙ get_or_append_left (channel_out blob k epoch) ((passed_sections (sections_of blob k) (sections_history (sections_of blob k) (channel_of k epoch) ++ []) (sample_of f k)).sample ∷ []) (pos 0) j (omega (arith, length-channel_out blob k epoch))) i)

history_of-more : (blob : List ℕ) (channels : ℕ) (epoch : List Frame) (f : Frame) → (passed_channels blob 0 channels (history_of blob channels epoch) f).numbers ≡ history_of blob channels (epoch ++ f ∷ [])
unfolding history_of
history_of-more blob channels epoch f = passed_channels-numbers blob 0 channels epoch f

-- and so are many more
pub equalised-append : (blob : List ℕ) (channels : ℕ) (epoch frames : List Frame) → equalised blob channels (epoch ++ frames) ≡ equalised blob channels epoch ++ passed_frames blob channels (history_of blob channels epoch) frames
equalised-append blob channels epoch [] = ap (equalised blob channels) (append-nil epoch) ∙ sym (append-nil (equalised blob channels epoch))
equalised-append blob channels epoch (f ∷ fs) =
    ap (equalised blob channels) (sym (append_assoc epoch (f ∷ []) fs))
    ∙ equalised-append blob channels (epoch ++ f ∷ []) fs
    ∙ ap (λ (v : List Frame × List ℤ). v.0 ++ passed_frames blob channels v.1 fs) (λ i. (equalised-more blob channels epoch f i, sym (history_of-more blob channels epoch f) i))
    ∙ append_assoc (equalised blob channels epoch) ((passed_channels blob 0 channels (history_of blob channels epoch) f).frame ∷ []) (passed_frames blob channels (passed_channels blob 0 channels (history_of blob channels epoch) f).numbers fs)

pub history_of-append : (blob : List ℕ) (channels : ℕ) (epoch frames : List Frame) → numbers_after blob channels (history_of blob channels epoch) frames ≡ history_of blob channels (epoch ++ frames)
history_of-append blob channels epoch [] = ap (history_of blob channels) (sym (append-nil epoch))
history_of-append blob channels epoch (f ∷ fs) =
    ap (λ numbers. numbers_after blob channels numbers fs) (history_of-more blob channels epoch f)
    ∙ history_of-append blob channels (epoch ++ f ∷ []) fs
    ∙ ap (history_of blob channels) (append_assoc epoch (f ∷ []) fs)

pub length-equalised : (blob : List ℕ) (channels : ℕ) (frames : List Frame) → length (equalised blob channels frames) ≡ length frames
unfolding equalised
length-equalised blob channels frames = length-map-range_with_len _ 0 (length frames)

-- ---- runs, from any numbers

pub passed_frames-append : (blob : List ℕ) (channels : ℕ) (numbers : List ℤ) (xs ys : List Frame) → passed_frames blob channels numbers (xs ++ ys) ≡ passed_frames blob channels numbers xs ++ passed_frames blob channels (numbers_after blob channels numbers xs) ys
passed_frames-append blob channels numbers [] ys = refl
passed_frames-append blob channels numbers (x ∷ xs) ys =
    let p = passed_channels blob 0 channels numbers x in
    ap (λ l. p.frame ∷ l) (passed_frames-append blob channels p.numbers xs ys)

pub numbers_after-append : (blob : List ℕ) (channels : ℕ) (numbers : List ℤ) (xs ys : List Frame) → numbers_after blob channels numbers (xs ++ ys) ≡ numbers_after blob channels (numbers_after blob channels numbers xs) ys
numbers_after-append blob channels numbers [] ys = refl
numbers_after-append blob channels numbers (x ∷ xs) ys = numbers_after-append blob channels (passed_channels blob 0 channels numbers x).numbers xs ys
