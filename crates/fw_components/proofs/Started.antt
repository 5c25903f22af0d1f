-- Tables once something begins, or has more frames.
use Rattle.std.proofs.Common.{◌≡◌, refl, sym, ap, ◌∙◌, subst, ℕ, List, [], ◌∷◌, ◌++◌, ◌/◌, ◌≤◌, min, length, map, Bool, true, false, cond, ◌==◌, ◌||◌, Option, Some, None, ℤ, set, get_or}
use Rattle.std.proofs.lemmas.Bool.{eq-eqb, or_parts, or_left, or_right}
use Rattle.std.specs.Prelude.{find, option_map, position}
use Rattle.std.specs.Option.{option_map_or}
use Rattle.std.specs.List.{list_any}
use Rattle.stream_law.specs.Placed.{Ascends}
use Rattle.sof_base.specs.Samples.{Frame}
use Rattle.fw_units.specs.declared.component.Component.{Component}
use Rattle.fw_components.specs.Tables.{Tables}
use Rattle.fw_components.specs.Kept.{IsKept}
use Rattle.fw_units.specs.Changes.{has_id}
use Rattle.fw_components.specs.Changes.{found}
use Rattle.fw_units.specs.Units.{unit_frames}
use Rattle.fw_units.specs.Frames.{buffer_frames, channels_by, channels_in, IsFresh, staged_by, kept_words, words_by, begun_by, begun_at, IsFreshBy, staged_in, staged_of_one, pushed_by, pushed_at}
use Rattle.fw_components.specs.Frames.{words_at, begun, staged_at, pushed}
use Rattle.fw_units.proofs.Ids.{has-map}
use Rattle.fw_units.proofs.Putting.{put-words}
use Rattle.fw_units.proofs.Standing.{frames-is, channels-is, fewest}
use Rattle.fw_units.proofs.Taking.{taken-found}
use Rattle.fw_components.proofs.Apart.{not-first, not-second}
use Rattle.fw_units.proofs.Found.{find-first, find-past, placed-there}
use Rattle.fw_components.proofs.KeptLaws.{at-id}

-- where no one has the id nothing changes
pub none-here : (g : Component → Component) (id : ℕ) (cs : List Component) → has_id cs id ≡ false → map (λ c. cond {A = Component} (c.id == id) (g c) c) cs ≡ cs
none-here g id [] none = refl
none-here g id (c ∷ cs) none =
    let parts = or_parts (c.id == id) (has_id cs id) none in
    ap (λ h. cond {A = Component} h (g c) c ∷ map (λ c. cond {A = Component} (c.id == id) (g c) c) cs) parts.0 ∙ ap (λ (xs : List Component). c ∷ xs) (none-here g id cs parts.1)

module _ (t : Tables) (kept : IsKept t) (id : ℕ) where
  module _ (channels rate at : ℕ) (x y : Component) where
    -- what stands at the place of the id begins
    abbrev IsBegun : List Component → Type 0
    IsBegun cs = (set cs at y ≡ map (begun_at id channels rate (words_by (find (λ c. c.id == id) (set cs at y)))) cs) × (IsFreshBy (find (λ c. c.id == id) (set cs at y)) × (staged_in (set cs at y) id ≡ staged_in cs id))

    pub begun-put : (cs : List Component) → Ascends (λ c. c.id) cs → Some at ≡ position (λ c. c.id == id) cs → x ≡ get_or cs at x → y ≡ begun_by channels rate (kept_words y) x → IsFresh y.unit → staged_by y.unit ≡ staged_by x.unit → IsBegun cs
    begun-put cs ascends place is begun fresh staged =
        let put = put-words (begun_by channels rate) (λ words c. refl) id at cs (set cs at y) y x ascends place refl (begun ∙ ap (begun_by channels rate (kept_words y)) is) in
        (put.1, (subst IsFreshBy put.0 fresh, ap staged_of_one (sym put.0) ∙ staged ∙ ap staged_of_one (ap (λ (c : Component). Some c) is ∙ taken-found id cs at x place)))

    there-still : (new : List Component) (words : List ℤ) (cs : List Component) → has_id cs id ≡ true → new ≡ map (begun_at id channels rate words) cs → has_id new id ≡ true
    there-still new words cs there is = ap (λ (xs : List Component). has_id xs id) is ∙ has-map (begun_at id channels rate words) (at-id (begun_by channels rate words) (λ c. refl) id) id cs ∙ there

    abbrev Begun : Tables → Type 0
    Begun now = (now ≡ begun id channels rate (words_at now id) t) × (IsFreshBy (found now id) × (staged_at now id ≡ staged_at t id))

    pub comp-begins : Some at ≡ position (λ c. c.id == id) t.comps → IsBegun t.comps → Begun (record { comps = set t.comps at y; buffers = t.buffers; pipes = t.pipes; joins = t.joins })
    comp-begins place put =
        let new = set t.comps at y in let there = placed-there id t.comps at place in
        let rest = t.buffers ++ t.pipes in
        let stands : find (λ c. c.id == id) (new ++ rest) ≡ find (λ c. c.id == id) new = find-first id new rest (there-still new (words_by (find (λ c. c.id == id) new)) t.comps there put.0) in
        let before : find (λ c. c.id == id) (t.comps ++ rest) ≡ find (λ c. c.id == id) t.comps = find-first id t.comps rest there in
        let words = words_by (find (λ c. c.id == id) (new ++ rest)) in
        let no_buffer = none-here (begun_by channels rate words) id t.buffers (not-second id t.comps t.buffers kept.named.comps_buffers there) in
        let no_pipe = none-here (begun_by channels rate words) id t.pipes (not-second id t.comps t.pipes kept.named.comps_pipes there) in
        ((λ i. record { comps = (put.0 ∙ ap (λ (o : Option Component). map (begun_at id channels rate (words_by o)) t.comps) (sym stands)) i; buffers = sym no_buffer i; pipes = sym no_pipe i; joins = t.joins }), (subst IsFreshBy (sym stands) put.1.0, ap staged_of_one stands ∙ put.1.1 ∙ ap staged_of_one (sym before)))

    pub buffer-begins : Some at ≡ position (λ c. c.id == id) t.buffers → IsBegun t.buffers → Begun (record { comps = t.comps; buffers = set t.buffers at y; pipes = t.pipes; joins = t.joins })
    buffer-begins place put =
        let new = set t.buffers at y in let there = placed-there id t.buffers at place in
        let gone = not-first id t.comps t.buffers kept.named.comps_buffers there in
        let stands : find (λ c. c.id == id) (t.comps ++ (new ++ t.pipes)) ≡ find (λ c. c.id == id) new = find-past id t.comps (new ++ t.pipes) gone ∙ find-first id new t.pipes (there-still new (words_by (find (λ c. c.id == id) new)) t.buffers there put.0) in
        let before : find (λ c. c.id == id) (t.comps ++ (t.buffers ++ t.pipes)) ≡ find (λ c. c.id == id) t.buffers = find-past id t.comps (t.buffers ++ t.pipes) gone ∙ find-first id t.buffers t.pipes there in
        let words = words_by (find (λ c. c.id == id) (t.comps ++ (new ++ t.pipes))) in
        let no_comp = none-here (begun_by channels rate words) id t.comps gone in
        let no_pipe = none-here (begun_by channels rate words) id t.pipes (not-second id t.buffers t.pipes kept.named.buffers_pipes there) in
        ((λ i. record { comps = sym no_comp i; buffers = (put.0 ∙ ap (λ (o : Option Component). map (begun_at id channels rate (words_by o)) t.buffers) (sym stands)) i; pipes = sym no_pipe i; joins = t.joins }), (subst IsFreshBy (sym stands) put.1.0, ap staged_of_one stands ∙ put.1.1 ∙ ap staged_of_one (sym before)))

    pub pipe-begins : has_id t.comps id ≡ false → has_id t.buffers id ≡ false → IsBegun t.pipes → Begun (record { comps = t.comps; buffers = t.buffers; pipes = set t.pipes at y; joins = t.joins })
    pipe-begins gone far put =
        let new = set t.pipes at y in
        let stands : find (λ c. c.id == id) (t.comps ++ (t.buffers ++ new)) ≡ find (λ c. c.id == id) new = find-past id t.comps (t.buffers ++ new) gone ∙ find-past id t.buffers new far in
        let before : find (λ c. c.id == id) (t.comps ++ (t.buffers ++ t.pipes)) ≡ find (λ c. c.id == id) t.pipes = find-past id t.comps (t.buffers ++ t.pipes) gone ∙ find-past id t.buffers t.pipes far in
        let words = words_by (find (λ c. c.id == id) (t.comps ++ (t.buffers ++ new))) in
        let no_comp = none-here (begun_by channels rate words) id t.comps gone in
        let no_buffer = none-here (begun_by channels rate words) id t.buffers far in
        ((λ i. record { comps = sym no_comp i; buffers = sym no_buffer i; pipes = (put.0 ∙ ap (λ (o : Option Component). map (begun_at id channels rate (words_by o)) t.pipes) (sym stands)) i; joins = t.joins }), (subst IsFreshBy (sym stands) put.1.0, ap staged_of_one stands ∙ put.1.1 ∙ ap staged_of_one (sym before)))

  -- a buffer has more frames
  pub more-frames : (frames : List Frame) (new : List Component) → has_id t.buffers id ≡ true → new ≡ map (pushed_at id frames (words_by (find (λ c. c.id == id) new))) t.buffers → record { comps = t.comps; buffers = new; pipes = t.pipes; joins = t.joins } ≡ pushed id frames (words_at (record { comps = t.comps; buffers = new; pipes = t.pipes; joins = t.joins }) id) t
  more-frames frames new there is =
      let gone = not-first id t.comps t.buffers kept.named.comps_buffers there in
      let words = words_by (find (λ c. c.id == id) new) in
      let still : has_id new id ≡ true = ap (λ (xs : List Component). has_id xs id) is ∙ has-map (pushed_at id frames words) (at-id (pushed_by frames words) (λ c. refl) id) id t.buffers ∙ there in
      let at : find (λ c. c.id == id) (t.comps ++ (new ++ t.pipes)) ≡ find (λ c. c.id == id) new = find-past id t.comps (new ++ t.pipes) gone ∙ find-first id new t.pipes still in
      ap (λ (cs : List Component). record { comps = t.comps; buffers = cs; pipes = t.pipes; joins = t.joins }) (is ∙ ap (λ (o : Option Component). map (pushed_at id frames (words_by o)) t.buffers) (sym at))

pub most-taken : (id : ℕ) (cs : List Component) (c : Component) → Some c ≡ find (λ x. x.id == id) cs → (n k : ℕ) → k ≡ min (n / channels_by c.unit) (length (unit_frames c.unit)) → n / channels_in cs id ≤ length (buffer_frames cs id) → k ≡ n / channels_in cs id
most-taken id cs c it n k is held = fewest (n / channels_in cs id) (length (buffer_frames cs id)) k (is ∙ (λ i. min (n / channels-is id cs c it i) (length (frames-is id cs c it i)))) held

-- ---- the first that passes a test

module _ (q : Component → Bool) where
  pub id-is : (cs : List Component) (b : ℕ) → Some b ≡ option_map (λ c. c.id) (find q cs) → b ≡ option_map_or (λ c. c.id) (find q cs) 0
  id-is cs b e = by (find q cs) e
    where
      or : Option ℕ → ℕ
      or None = 0
      or (Some n) = n

      by : (o : Option Component) → Some b ≡ option_map (λ c. c.id) o → b ≡ option_map_or (λ c. c.id) o 0
      by None e = absurd (cc e)
      by (Some c) e = ap or e

  pub id-there : (cs : List Component) (b : ℕ) → Some b ≡ option_map (λ c. c.id) (find q cs) → has_id cs b ≡ true
  id-there [] b e = absurd (cc e)
  id-there (c ∷ cs) b e = by (q c) e (id-there cs b)
    where
      or : Option ℕ → ℕ
      or None = 0
      or (Some n) = n

      by : (h : Bool) → Some b ≡ option_map (λ c. c.id) (cond h (Some c) (find q cs)) → (Some b ≡ option_map (λ c. c.id) (find q cs) → has_id cs b ≡ true) → (c.id == b || has_id cs b) ≡ true
      by true e rest = or_left (c.id == b) (has_id cs b) (eq-eqb c.id b (sym (ap or e)))
      by false e rest = or_right (c.id == b) (has_id cs b) (rest e)

  pub id-never : (cs : List Component) → None ≡ option_map (λ c. c.id) (find q cs) → list_any q cs ≡ false
  id-never [] e = refl
  id-never (c ∷ cs) e = by (q c) e (id-never cs)
    where
      by : (h : Bool) → None ≡ option_map (λ c. c.id) (cond h (Some c) (find q cs)) → (None ≡ option_map (λ c. c.id) (find q cs) → list_any q cs ≡ false) → (h || list_any q cs) ≡ false
      by true e rest = absurd (cc e)
      by false e rest = rest e
