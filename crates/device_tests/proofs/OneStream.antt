-- The registry of one stream that runs, in a region of which nothing is left.
use Rattle.std.proofs.Common.{◌≡◌, refl, ap, ◌∙◌, ℕ, ◌+◌, ◌%◌, ◌≤◌, List, [], ◌∷◌, ℤ, Some, true, false, inl, arith}
use Rattle.std.specs.List.{IsDistinct}
use Rattle.sof_base.specs.declared.format.Format.TheVariants.{S16}
use Rattle.sof_base.specs.declared.format.Params.{Params}
use Rattle.stream_law.specs.declared.stream.Phase.TheVariants.{Running}
use Rattle.stream_law.specs.Placed.{Ascends, AreAbove}
use Rattle.stream_law.specs.Ways.{reaches, is_echo, way_joins, ways_to, on_way, live, channels_of, rate_of, agree}
use Rattle.stream_law.specs.Seen.{flows}
use Rattle.mbox_link.specs.StreamRows.{is_way_ready}
use Rattle.row_laws.specs.Tiled.{AreAllApart, IsHeapPiece}
use Rattle.row_laws.specs.Kept.{FirmwareInvariant}
use Rattle.fw_heap.specs.declared.run.Home.{Home}
use Rattle.fw_heap.specs.Pieces.{PieceState}
use Rattle.fw_heap.specs.Regions.{RegionState}
use Rattle.fw_units.specs.declared.component.Unit.TheVariants.{Host, Dai, Buffer, Pipeline}
use Rattle.fw_components.specs.Tables.{Tables}
use Rattle.fw_core.specs.Held.{IsPieceHeld, state_in}

-- the pieces of 64 bytes, one after another
abbrev pub piece_at : Home → ℕ → List ℤ → PieceState
piece_at home place words = record { home = home; place = place; size = 64; words = words }

abbrev pub params : Params
params = record { rate = 8000; channels = 1; format = S16 }

-- what is there, joined, complete and running
abbrev pub running : (of_host of_buffer of_dai of_pipeline : PieceState) → Tables
running of_host of_buffer of_dai of_pipeline = record {
  comps = record { id = 1; pipe = 1; channels = 1; unit = Host false Running (Some params) of_host } ∷ record { id = 3; pipe = 1; channels = 1; unit = Dai false S16 of_dai } ∷ [];
  buffers = record { id = 2; pipe = 1; channels = 1; unit = Buffer 32 (record { frames = []; words = 8; channels = 1; start = 0; piece = of_buffer }) (Some 1) (Some 3) } ∷ [];
  pipes = record { id = 4; pipe = 1; channels = 1; unit = Pipeline 3 1000 true of_pipeline } ∷ [];
  joins = record { source = 1; sink = 2 } ∷ record { source = 2; sink = 3 } ∷ [];
}

abbrev pub tables : Home → (a b c d : List ℤ) → Tables
tables home a b c d = running (piece_at home 0 a) (piece_at home 64 b) (piece_at home 128 c) (piece_at home 192 d)

abbrev pub full : Home → ℕ → RegionState
full home size = record { home = home; size = size; usable = 256; holes = [] }

-- a piece is what its home, its place and its size say
pub piece-is : (p : PieceState) (home : Home) (place : ℕ) → p.home ≡ home → p.size ≡ 64 → p.place ≡ place → p ≡ piece_at home place p.words
piece-is p home place at-home sized stands =
    ap (λ (h : Home). record { home = h; place = p.place; size = p.size; words = p.words }) at-home
    ∙ ap (λ (n : ℕ). record { home = home; place = p.place; size = n; words = p.words }) sized
    ∙ ap (λ (n : ℕ). record { home = home; place = n; size = 64; words = p.words }) stands

pub running-over : (p q r s x y z w : PieceState) → p ≡ x → q ≡ y → r ≡ z → s ≡ w → running p q r s ≡ running x y z w
running-over p q r s x y z w first second third last =
    ap (λ (a : PieceState). running a q r s) first ∙ ap (λ (a : PieceState). running x a r s) second
    ∙ ap (λ (a : PieceState). running x y a s) third ∙ ap (λ (a : PieceState). running x y z a) last

piece-in : (id place : ℕ) → place + 64 ≤ 256 → place % 16 ≡ 0 → IsHeapPiece 256 (record { id = id; place = place; size = 64 })
piece-in id place within whole = record { within = within; place = whole; size = refl; filled = omega arith }

-- the state at a clock is one that rows keep
running-kept : (home : Home) (size : ℕ) (a b c d : List ℤ) (clock : ℕ) → FirmwareInvariant (state_in (tables home a b c d) (full home size) clock)
unfolding IsDistinct Ascends AreAbove reaches is_echo way_joins ways_to on_way live agree flows is_way_ready AreAllApart
running-kept home size a b c d clock = record {
  comps = omega arith;
  edges = omega arith;
  pipes = omega arith;
  joins = omega arith;
  streams = omega arith;
  ascending = record {
    comps = ((omega arith, tt), (tt, tt));
    edges = (tt, tt);
    pipes = (tt, tt);
    streams = (tt, tt);
    pieces = ((omega arith, (omega arith, (omega arith, tt))), ((omega arith, (omega arith, tt)), ((omega arith, tt), (tt, tt))));
    staging = tt;
  };
  indices = (tt, tt);
  sizes = (refl, tt);
  settings = (tt, (tt, tt));
  ramps = (refl, (refl, tt));
  pieces = record {
    few = omega arith;
    named = (refl, (refl, (refl, (refl, tt))));
    comps = (refl, (refl, tt));
    edges = (refl, tt);
    pipes = (refl, tt);
  };
  tiled = record {
    holes = tt;
    ids = ((refl, (refl, (refl, tt))), ((refl, (refl, tt)), ((refl, tt), (tt, tt))));
    each = (piece-in 1 0 (omega arith) refl, (piece-in 2 64 (omega arith) refl, (piece-in 3 128 (omega arith) refl, (piece-in 4 192 (omega arith) refl, tt))));
    apart = ((inl (omega arith), (inl (omega arith), (inl (omega arith), tt))), ((inl (omega arith), (inl (omega arith), tt)), ((inl (omega arith), tt), (tt, tt))));
    outside = (tt, (tt, (tt, (tt, tt))));
    whole = refl;
  };
  wired = record {
    ids = ((refl, tt), (tt, tt));
    buffers = (tt, tt);
    names = (tt, tt);
    apart = (refl, tt);
    alone = (refl, tt);
    ends = ((refl, refl), ((refl, refl), tt));
    sides = ((refl, refl), tt);
    periods = (refl, tt);
  };
  linked = record {
    at = (refl, (refl, tt));
    from = (refl, tt);
    to = (refl, tt);
    open_ends = (refl, (refl, tt));
  };
  played = record {
    hosts = (tt, tt);
    owned = (refl, tt);
    each = ((refl, (omega arith, omega arith), refl, refl), tt);
    agreed = refl;
  };
  rings = refl;
  seen = refl;
  histories = record { comps = refl; numbers = tt; ramps = tt };
  staging = tt;
}

pub running-held : (home : Home) (size : ℕ) (a b c d : List ℤ) → IsPieceHeld (tables home a b c d) (full home size)
unfolding reaches is_echo way_joins ways_to on_way live channels_of rate_of
running-held home size a b c d = record {
  kept = running-kept home size a b c d;
  homes = (refl, (refl, (refl, (refl, tt))));
  whole = refl;
  shapes = record {
    comps = ((λ is. refl), ((λ is. refl), tt));
    buffers = ((λ is. refl), tt);
    ramps = ((λ is. refl), ((λ is. refl), tt));
  };
}
