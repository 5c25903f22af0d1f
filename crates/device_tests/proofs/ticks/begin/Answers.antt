use Rattle.std.proofs.Common.{◌≡◌, refl, ap, ◌∙◌}
use Rattle.fw_heap.specs.Regions.{RegionState}
use Rattle.device_tests.proofs.OneStream.{piece_at, running, tables, full, piece-is, running-over, running-held}
use Rattle.device_tests.proofs.ticks.begin.Goals as goal

pub returns : goal.returns
returns g c =
    let home = c.args.region.now.home in
    let size = c.args.region.now.size in
    let p = c.carved-piece.result in
    let q = c.carved-piece-2.result in
    let r = c.carved-piece-3.result in
    let s = c.carved-piece-4.result in
    let one : c.carved-piece.new.region.home ≡ home = ap (λ (x : RegionState). x.home) c.carved-piece.ensures.region in
    let two : c.carved-piece-2.new.region.home ≡ home = ap (λ (x : RegionState). x.home) c.carved-piece-2.ensures.region ∙ one in
    let three : c.carved-piece-3.new.region.home ≡ home = ap (λ (x : RegionState). x.home) c.carved-piece-3.ensures.region ∙ two in
    let first-at : p.place ≡ 0 = rw (c.carved-piece.ensures.piece.2, c.requires.fresh.0) refl in
    let second-at : q.place ≡ 64 = rw (c.carved-piece-2.ensures.piece.2, c.carved-piece.ensures.region, c.requires.fresh.0) refl in
    let third-at : r.place ≡ 128 = rw (c.carved-piece-3.ensures.piece.2, c.carved-piece-2.ensures.region, c.carved-piece.ensures.region, c.requires.fresh.0) refl in
    let last-at : s.place ≡ 192 = rw (c.carved-piece-4.ensures.piece.2, c.carved-piece-3.ensures.region, c.carved-piece-2.ensures.region, c.carved-piece.ensures.region, c.requires.fresh.0) refl in
    let first : p ≡ piece_at home 0 p.words = piece-is p home 0 c.carved-piece.ensures.piece.0 c.carved-piece.ensures.piece.1 first-at in
    let second : q ≡ piece_at home 64 q.words = piece-is q home 64 (c.carved-piece-2.ensures.piece.0 ∙ one) c.carved-piece-2.ensures.piece.1 second-at in
    let third : r ≡ piece_at home 128 r.words = piece-is r home 128 (c.carved-piece-3.ensures.piece.0 ∙ two) c.carved-piece-3.ensures.piece.1 third-at in
    let last : s ≡ piece_at home 192 s.words = piece-is s home 192 (c.carved-piece-4.ensures.piece.0 ∙ three) c.carved-piece-4.ensures.piece.1 last-at in
    let there : c.set_stream.new.self ≡ running p q r s = rw (c.set_stream.ensures, c.set_complete.ensures, c.join-2.ensures, c.join.ensures, c.put-4.ensures, c.put-3.ensures, c.put-2.ensures, c.put.ensures, c.over.ensures, c.requires.empty) refl in
    let all : c.set_stream.new.self ≡ tables home p.words q.words r.words s.words = there ∙ running-over p q r s (piece_at home 0 p.words) (piece_at home 64 q.words) (piece_at home 128 r.words) (piece_at home 192 s.words) first second third last in
    let left : c.carved-piece-4.new.region ≡ full home size = rw (c.carved-piece-4.ensures.region, c.carved-piece-3.ensures.region, c.carved-piece-2.ensures.region, c.carved-piece.ensures.region, c.requires.fresh.0, c.requires.fresh.1) refl in
    record { held = rw (all, left) (running-held home size p.words q.words r.words s.words) }
