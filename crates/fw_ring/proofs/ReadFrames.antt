-- Frames that are read, part by part.
use Rattle.std.proofs.Common.{◌≡◌, sym, ap, ◌∙◌, ℕ, ◌+◌, ◌-◌, ◌*◌, ◌<◌, ◌≤◌, List, [], ◌++◌, length, take, drop, map, arith, length-take, length-drop, length-append, take-append-drop, pos}
use Rattle.std.proofs.lemmas.List.{get_or-take, get_or-drop, get_or_append_left, get_or-append_right, take_at, drop_at}
use Rattle.std.specs.List.{range_with_len}
use Rattle.std.proofs.lemmas.List.FromFn.{fill_by_all, get_or-map-range_with_len, length-map-range_with_len}
use Rattle.std.proofs.Math.Nat.{mul-le-mul_right}
use Rattle.sof_base.specs.declared.format.Format.{Format}
use Rattle.sof_base.specs.Samples.{Frame, width, sample_in_of, frame_in, frames_in}
use Rattle.sof_base.specs.FrameLists.{frames_of}
use Rattle.sof_base.proofs.SampleLaws.{frames_in-append, frames_in-drop}
use Rattle.fw_ring.proofs.FrameLaws.{length-frames, get-frame}
use Rattle.fw_ring.proofs.RoundLaws.{by_less}

-- samples that are read one after the other are frames
pub frames-read : (format : Format) (c n : ℕ) (bytes : List ℕ) → frames_of c n (frame_in format (n * c) bytes 0) ≡ frames_in format c bytes 0 n
frames-read format c n bytes =
    let ws = frame_in format (n * c) bytes 0 in let w = width format in
    let long : length ws ≡ n * c = length-map-range_with_len (λ k. sample_in_of format bytes (0 + k * w)) 0 (n * c) in
    fill_by_all (λ j. frame_in format c bytes (0 + j * (c * w))) (frames_of c n ws) n [] (length-frames c n ws) (λ j lt.
    let within : (j + 1) * c ≤ n * c = mul-le-mul_right c (let l : j + 1 ≤ n = omega arith in l) in
    get-frame c n j ws [] lt
    ∙ fill_by_all (λ k. sample_in_of format bytes (0 + j * (c * w) + k * w)) (take c (drop (j * c) ws)) c (pos 0) (omega (arith, length-take c (drop (j * c) ws), length-drop (j * c) ws, long, within)) (λ k low.
    let under : j * c + k < n * c = omega (arith, within) in
    get_or-take c (drop (j * c) ws) k (pos 0) low ∙ get_or-drop (j * c) ws k (pos 0)
    ∙ get_or-map-range_with_len (λ k. sample_in_of format bytes (0 + k * w)) 0 (n * c) (j * c + k) (j * c + k) (pos 0) under (omega arith)
    ∙ ap (sample_in_of format bytes) (let e : 0 + (j * c + k) * w ≡ 0 + j * (c * w) + k * w = omega arith in e)))

-- frames of the first bytes, and of those after them
pub frames_in-more : (format : Format) (c a b : ℕ) (bytes : List ℕ) → length bytes ≡ (a + b) * (c * width format) → frames_in format c (take (a * (c * width format)) bytes) 0 a ++ frames_in format c (drop (a * (c * width format)) bytes) 0 b ≡ frames_in format c bytes 0 (a + b)
frames_in-more format c a b bytes long =
    let m : ℕ = c * width format in let front = take (a * m) bytes in let back = drop (a * m) bytes in
    let enough : a * m ≤ length bytes = omega (arith, long, mul-le-mul_right m (let l : a ≤ a + b = omega arith in l)) in
    let first : frames_in format c front 0 a ≡ frames_in format c bytes 0 a =
    sym (frames_in-append format c front back 0 a (omega (arith, length-take (a * m) bytes, enough))) ∙ ap (λ (t : List ℕ). frames_in format c t 0 a) (take-append-drop (a * m) bytes) in
    (λ i. first i ++ frames_in-drop format c bytes (a * m) b i)
    ∙ joined (λ p. frame_in format c bytes p) m a b
  where
    steps : (a k m : ℕ) → a ≤ k → a * m + (k - a) * m ≡ 0 + k * m
    steps a k m le = let all : k ≡ a + (k - a) = omega arith in sym (ap (λ n. 0 + n * m) all ∙ omega arith)

    joined : (g : ℕ → Frame) (m a b : ℕ) → map (λ j. g (0 + j * m)) (range_with_len 0 a) ++ map (λ j. g (a * m + j * m)) (range_with_len 0 b) ≡ map (λ j. g (0 + j * m)) (range_with_len 0 (a + b))
    joined g m a b =
        let xs = map (λ j. g (0 + j * m)) (range_with_len 0 a) in let ys = map (λ j. g (a * m + j * m)) (range_with_len 0 b) in
        let lx : length xs ≡ a = length-map-range_with_len (λ j. g (0 + j * m)) 0 a in let ly : length ys ≡ b = length-map-range_with_len (λ j. g (a * m + j * m)) 0 b in
        fill_by_all (λ j. g (0 + j * m)) (xs ++ ys) (a + b) [] (omega (arith, length-append xs ys, lx, ly)) (λ k lt. by_less k a
        (λ low. get_or_append_left xs ys [] k (omega (arith, lx)) ∙ get_or-map-range_with_len (λ j. g (0 + j * m)) 0 a k k [] low (omega arith))
        (λ high. get_or-append_right xs ys a k [] lx high ∙ get_or-map-range_with_len (λ j. g (a * m + j * m)) 0 b (k - a) (k - a) [] (omega arith) (omega arith)
        ∙ ap g (let e : a * m + (k - a) * m ≡ 0 + k * m = steps a k m high in e)))

-- the same where the bytes come one after the other
pub frames_in-both : (format : Format) (c a b : ℕ) (xs ys : List ℕ) → length xs ≡ a * (c * width format) → length ys ≡ b * (c * width format) → frames_in format c (xs ++ ys) 0 (a + b) ≡ frames_in format c xs 0 a ++ frames_in format c ys 0 b
frames_in-both format c a b xs ys front back =
    let whole : length (xs ++ ys) ≡ (a + b) * (c * width format) = omega (arith, length-append xs ys, front, back) in
    sym (frames_in-more format c a b (xs ++ ys) whole)
    ∙ (λ i. frames_in format c (take_at xs ys (a * (c * width format)) front i) 0 a ++ frames_in format c (drop_at xs ys (a * (c * width format)) front i) 0 b)
