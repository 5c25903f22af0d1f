-- Frames whose words lie one after the other.
use Rattle.std.proofs.Common.{◌≡◌, refl, sym, ap, ◌∙◌, ℕ, zero, suc, ◌+◌, ◌-◌, ◌*◌, ◌<◌, ◌≤◌, List, [], ◌∷◌, ◌++◌, length, take, drop, get_or, arith, length-take, length-drop, ℤ}
use Rattle.std.proofs.lemmas.List.{take-take, take_at, drop_at, drop-drop, drop-take}
use Rattle.std.proofs.Math.Nat.{mul-le-mul_right}
use borrow.Rule.Slice.PartMut.{put_mid}
use Rattle.sof_base.specs.Samples.{Frame}
use Rattle.sof_base.specs.FrameLists.{AreFrames, frames_of}
use Rattle.fw_ring.specs.RingWords.{round_from}

pub length-frames : (c n : ℕ) (ws : List ℤ) → length (frames_of c n ws) ≡ n
length-frames c zero ws = refl
length-frames c (suc n) ws = ap suc (length-frames c n (drop c ws))

-- frames and those after them
pub frames-more : (c a b : ℕ) (ws : List ℤ) → frames_of c (a + b) ws ≡ frames_of c a ws ++ frames_of c b (drop (a * c) ws)
frames-more c zero b ws =
    let n : 0 + b ≡ b = omega arith in let p : 0 * c ≡ 0 = omega arith in
    ap (λ k. frames_of c k ws) n ∙ ap (λ k. frames_of c b (drop k ws)) (sym p)
frames-more c (suc a) b ws =
    let n : suc a + b ≡ suc (a + b) = omega arith in let p : c + a * c ≡ suc a * c = omega arith in
    ap (λ k. frames_of c k ws) n
    ∙ ap (λ (t : List Frame). take c ws ∷ t) (frames-more c a b (drop c ws) ∙ ap (λ (t : List ℤ). frames_of c a (drop c ws) ++ frames_of c b t) (drop-drop (a * c) c ws ∙ ap (λ k. drop k ws) p))

-- only their own words count
pub frames-take : (c n : ℕ) (ws : List ℤ) → frames_of c n (take (n * c) ws) ≡ frames_of c n ws
frames-take c zero ws = refl
frames-take c (suc n) ws =
    let p : suc n * c ≡ c + n * c = omega arith in
    let most : c ≤ suc n * c = omega arith in
    ap (λ (t : List ℤ). t ∷ frames_of c n (drop c (take (suc n * c) ws))) (take-take c (suc n * c) ws most)
    ∙ ap (λ (t : List ℤ). take c ws ∷ frames_of c n t) (ap (λ k. drop c (take k ws)) p ∙ drop-take c (n * c) ws)
    ∙ ap (λ (t : List Frame). take c ws ∷ t) (frames-take c n (drop c ws))

-- frames of words and of those after them
pub frames-append : (c a b : ℕ) (xs ys : List ℤ) → length xs ≡ a * c → frames_of c (a + b) (xs ++ ys) ≡ frames_of c a xs ++ frames_of c b ys
frames-append c a b xs ys long =
    frames-more c a b (xs ++ ys)
    ∙ ap (λ (t : List ℤ). frames_of c a (xs ++ ys) ++ frames_of c b t) (drop_at xs ys (a * c) long)
    ∙ ap (λ (t : List Frame). t ++ frames_of c b ys) (sym (frames-take c a (xs ++ ys)) ∙ ap (frames_of c a) (take_at xs ys (a * c) long))

-- frames of the first words, and of those after them
pub frames-front : (c a b : ℕ) (ws : List ℤ) → frames_of c a (take (a * c) ws) ++ frames_of c b (drop (a * c) ws) ≡ frames_of c (a + b) ws
frames-front c a b ws = ap (λ (t : List Frame). t ++ frames_of c b (drop (a * c) ws)) (frames-take c a ws) ∙ sym (frames-more c a b ws)

-- words in the place of those of m frames are the frames in their place
pub frames-put : (c t m n : ℕ) (ws xs : List ℤ) → t + m ≤ n → n * c ≤ length ws → length xs ≡ m * c → frames_of c n (put_mid (t * c) (m * c) ws xs) ≡ put_mid t m (frames_of c n ws) (frames_of c m xs)
frames-put c t m n ws xs fits long count =
    let r = n - (t + m) in let all : n ≡ t + (m + r) = omega arith in
    let rest = drop (m * c) (drop (t * c) ws) in
    let below : t * c ≤ n * c = mul-le-mul_right c (let l : t ≤ n = omega arith in l) in
    let front : length (take (t * c) ws) ≡ t * c = omega (arith, length-take (t * c) ws) in
    let before : frames_of c n ws ≡ frames_of c t ws ++ (frames_of c m (drop (t * c) ws) ++ frames_of c r rest) =
    ap (λ k. frames_of c k ws) all ∙ frames-more c t (m + r) ws ∙ ap (λ (u : List Frame). frames_of c t ws ++ u) (frames-more c m r (drop (t * c) ws)) in
    let tail : drop t (frames_of c n ws) ≡ frames_of c m (drop (t * c) ws) ++ frames_of c r rest =
    ap (drop t) before ∙ drop_at (frames_of c t ws) (frames_of c m (drop (t * c) ws) ++ frames_of c r rest) t (length-frames c t ws) in
    ap (λ k. frames_of c k (put_mid (t * c) (m * c) ws xs)) all
    ∙ frames-append c t (m + r) (take (t * c) ws) (xs ++ rest) front
    ∙ (λ i. frames-take c t ws i ++ frames-append c m r xs rest count i)
    ∙ sym ((λ i. (ap (take t) before ∙ take_at (frames_of c t ws) (frames_of c m (drop (t * c) ws) ++ frames_of c r rest) t (length-frames c t ws)) i
    ++ (frames_of c m xs ++ (ap (drop m) tail ∙ drop_at (frames_of c m (drop (t * c) ws)) (frames_of c r rest) m (length-frames c m (drop (t * c) ws))) i)))

-- the frames from a place on
pub frames-drop : (c s n : ℕ) (ws : List ℤ) → s ≤ n → drop s (frames_of c n ws) ≡ frames_of c (n - s) (drop (s * c) ws)
frames-drop c s n ws le =
    let all : n ≡ s + (n - s) = omega arith in
    ap (λ k. drop s (frames_of c k ws)) all ∙ ap (drop s) (frames-more c s (n - s) ws) ∙ drop_at (frames_of c s ws) (frames_of c (n - s) (drop (s * c) ws)) s (length-frames c s ws)

-- the first frames
pub take-frames : (c m n : ℕ) (ws : List ℤ) → m ≤ n → take m (frames_of c n ws) ≡ frames_of c m ws
take-frames c m n ws le =
    let all : n ≡ m + (n - m) = omega arith in
    ap (λ k. take m (frames_of c k ws)) all ∙ ap (take m) (frames-more c m (n - m) ws) ∙ take_at (frames_of c m ws) (frames_of c (n - m) (drop (m * c) ws)) m (length-frames c m ws)

-- the frame at a place
pub get-frame : (c n j : ℕ) (ws : List ℤ) (d : Frame) → j < n → get_or (frames_of c n ws) j d ≡ take c (drop (j * c) ws)
get-frame c zero j ws d lt = absurd (omega arith)
get-frame c (suc n) zero ws d lt = let p : 0 * c ≡ 0 = omega arith in ap (λ k. take c (drop k ws)) (sym p)
get-frame c (suc n) (suc j) ws d lt =
    let p : c + j * c ≡ suc j * c = omega arith in
    get-frame c n j (drop c ws) d (omega arith) ∙ ap (take c) (drop-drop (j * c) c ws ∙ ap (λ k. drop k ws) p)

-- each frame has its samples
pub frames-whole : (c n : ℕ) (ws : List ℤ) → n * c ≤ length ws → AreFrames c (frames_of c n ws)
frames-whole c zero ws long = tt
frames-whole c (suc n) ws long =
    let p : suc n * c ≡ c + n * c = omega arith in
    (omega (arith, p, length-take c ws), frames-whole c n (drop c ws) (omega (arith, p, length-drop c ws)))

-- the bytes of the frames after the first ones
pub rest-whole : (a n m : ℕ) → a ≤ n → n * m - a * m ≡ (n - a) * m
rest-whole a n m le = let all : n ≡ a + (n - a) = omega arith in let e : n * m ≡ a * m + (n - a) * m = ap (λ k. k * m) all ∙ omega arith in omega (arith, e)

whole-append : (c : ℕ) (xs ys : List Frame) → AreFrames c xs → AreFrames c ys → AreFrames c (xs ++ ys)
whole-append c [] ys ax ay = ay
whole-append c (x ∷ xs) ys ax ay = (ax.0, whole-append c xs ys ax.1 ay)

pub whole-take : (c n : ℕ) (xs : List Frame) → AreFrames c xs → AreFrames c (take n xs)
whole-take c zero xs are = tt
whole-take c (suc n) [] are = tt
whole-take c (suc n) (x ∷ xs) are = (are.0, whole-take c n xs are.1)

whole-drop : (c n : ℕ) (xs : List Frame) → AreFrames c xs → AreFrames c (drop n xs)
whole-drop c zero xs are = are
whole-drop c (suc n) [] are = tt
whole-drop c (suc n) (x ∷ xs) are = whole-drop c n xs are.1

-- so have those that are read round the end
pub round-whole : (c s n : ℕ) (xs : List Frame) → AreFrames c xs → AreFrames c (round_from s n xs)
unfolding round_from
round-whole c s n xs are = whole-take c n (drop s xs ++ take s xs) (whole-append c (drop s xs) (take s xs) (whole-drop c s xs are) (whole-take c s xs are))
