-- The heap once the widgets of all ids below a number are made of a fresh one: a widget that no hole holds then is one up to which the
-- stated sizes pass the heap.
use Rattle.std.proofs.Common.{◌≡◌, refl, sym, ap, subst, ◌∙◌, inl, inr, ℕ, zero, suc, ◌+◌, ◌-◌, ◌%◌, ◌<◌, ◌≤◌, List, [], ◌∷◌, ◌++◌, map, sum, length, Bool, true, false, cond, ltb, leb, Option, Some, None, arith}
use Rattle.std.specs.List.{range_with_len}
use Rattle.std.proofs.lemmas.Bool.{ltb-true, ltb-false, le-leb, lt-leb}
use Rattle.std.proofs.lemmas.List.{map-append}
use Rattle.std.proofs.lemmas.List.Sums.{sum_by_push}
use Rattle.sof_base.specs.declared.errno.Errno.{Errno}
use Rattle.sof_base.specs.Holes.{rounded, usable_of, fits, carved}
use Rattle.stream_law.specs.declared.graph.Kind.{Kind}
use Rattle.stream_law.specs.declared.graph.Kind.TheVariants.{HostPlay}
use Rattle.stream_law.specs.declared.graph.Comp.{Comp}
use Rattle.stream_law.specs.declared.graph.Edge.{Edge}
use Rattle.stream_law.specs.State.{FwState, HeapView}
use Rattle.stream_law.specs.Ways.{comp_of, edge_of}
use Rattle.ipc3_model.specs.declared.message.Message.{Message}
use Rattle.mbox_link.specs.Step.{fresh, comp_bytes, heap_with_piece, no_memory}
use Rattle.tplg_plan.specs.declared.plans.Plan.{Plan}
use Rattle.tplg_plan.specs.Sound.{IsSound, Names}
use Rattle.host_widgets.specs.declared.kept.Record.{Record}
use Rattle.host_widgets.specs.ActMessages.{act_message}
use Rattle.host_widgets.specs.Acts.{widget_words}
use Rattle.host_widgets.specs.Bringing.{Fits}
use Rattle.host_widgets.specs.Controls.{control_of}
use Rattle.host_widgets.specs.Expected.{loaded_heap, needed_by, stated_by, stated_bytes, with_pieces}
use Rattle.host_widgets.specs.Host.{errno}
use Rattle.host_widgets.specs.HostActs.{Act, Make}
use Rattle.host_widgets.specs.OneAct.{own}
use Rattle.host_widgets.proofs.Carving.{left, fresh-left, fits-left, carved-left}
use Rattle.host_widgets.proofs.Effects.{effect}
use Rattle.host_widgets.proofs.ManyEffects.{AllFree}
use Rattle.host_widgets.proofs.MakeStates.{message-comp, message-buffer, message-pipe, bytes-comp, bytes-buffer, bytes-pipe, kind-read}
use Rattle.host_widgets.proofs.NamedIds.{named-at}

-- ---- bytes

comp_bytes-some : (kind : Kind) → 0 < comp_bytes kind
comp_bytes-some HostPlay = omega arith
comp_bytes-some kind = omega arith

bytes-some : (c : Option Comp) (e : Option Edge) → 0 < stated_by c e
bytes-some (Some c) e = comp_bytes-some c.kind
bytes-some None (Some e) = omega arith
bytes-some None None = omega arith

rounded-some : (n : ℕ) → 0 < n → 0 < rounded n
rounded-some n some = omega arith

rounded-whole : (n : ℕ) → rounded n % 16 ≡ 0
rounded-whole n = omega arith

range-more : (from n : ℕ) → range_with_len from (n + 1) ≡ range_with_len from n ++ (from + n) ∷ []
range-more from zero = let e : from + 0 ≡ from = omega arith in rw e
range-more from (suc n) =
    let e : from + 1 + n ≡ from + suc n = omega arith in let f : suc n + 1 ≡ suc (n + 1) = omega arith in rw f (ap (λ l. from ∷ l) (range-more (from + 1) n ∙ rw e))

-- the ids up to this one
ids-more : (n : ℕ) → range_with_len 0 (n + 1) ≡ range_with_len 0 n ++ n ∷ []
ids-more n = let e : 0 + n ≡ n = omega arith in range-more 0 n ∙ ap (λ k. range_with_len 0 n ++ k ∷ []) e

module _ (plan : Plan) where
  abbrev bytes : ℕ → ℕ
  bytes n = rounded (stated_bytes plan n)

  bytes-are : (n : ℕ) → 0 < bytes n
  bytes-are n = rounded-some (stated_bytes plan n) (bytes-some (comp_of plan.graph n) (edge_of plan.graph n))

  -- one widget more needs its bytes more
  pub needed-more : (n : ℕ) → needed_by plan (n + 1) ≡ needed_by plan n + bytes n
  needed-more n = ap (λ (ids : List ℕ). sum (map bytes ids)) (ids-more n) ∙ ap sum (map-append bytes (range_with_len 0 n) (n ∷ [])) ∙ sum_by_push (λ m. m) (map bytes (range_with_len 0 n)) (bytes n)

  needed-next : (n : ℕ) → needed_by plan (suc n) ≡ needed_by plan n + bytes n
  needed-next n = let e : suc n ≡ n + 1 = omega arith in ap (needed_by plan) e ∙ needed-more n

  needed-whole : (n : ℕ) → needed_by plan n % 16 ≡ 0
  needed-whole zero = refl
  needed-whole (suc n) = let rest = needed-whole n in let whole = rounded-whole (stated_bytes plan n) in let next = needed-next n in omega (arith, rest, whole, next)

  pub needed-rises : (n k : ℕ) → needed_by plan n ≤ needed_by plan (n + k)
  needed-rises n zero = let e : needed_by plan (n + 0) ≡ needed_by plan n = (let f : n + 0 ≡ n = omega arith in ap (needed_by plan) f) in omega (arith, e)
  needed-rises n (suc k) =
      let e : needed_by plan (n + suc k) ≡ needed_by plan (n + k) + bytes (n + k) = (let f : n + suc k ≡ n + k + 1 = omega arith in ap (needed_by plan) f ∙ needed-more (n + k)) in
      omega (arith, e, needed-rises n k)

  -- ---- pieces

  -- the heap once the ids below n have their pieces
  abbrev pub heap_by : ℕ → ℕ → HeapView
  heap_by heap n = with_pieces plan (range_with_len 0 n) (fresh heap).heap

  pieces-more : (ids : List ℕ) (n : ℕ) (h : HeapView) → with_pieces plan (ids ++ n ∷ []) h ≡ heap_with_piece n (stated_bytes plan n) (with_pieces plan ids h)
  pieces-more [] n h = refl
  pieces-more (id ∷ ids) n h = pieces-more ids n (heap_with_piece id (stated_bytes plan id) h)

  heap-more : (heap n : ℕ) → heap_with_piece n (stated_bytes plan n) (heap_by heap n) ≡ heap_by heap (n + 1)
  heap-more heap n = sym (ap (λ ids. with_pieces plan ids (fresh heap).heap) (ids-more n) ∙ pieces-more (range_with_len 0 n) n (fresh heap).heap)

  -- ---- refusals

  -- what the firmware itself refuses by its holes: a widget that none holds, and no other act that makes pipelines
  abbrev pub own_at : FwState → Act → Option Errno
  own_at f (Make id) = cond (fits (bytes id) f.heap.holes) None (Some (errno no_memory))
  own_at f act = None

  module _ (heap : ℕ) where
    -- the holes once those before an id are carved
    carved-to : (id : ℕ) → needed_by plan id ≤ usable_of heap → (heap_by heap id).holes ≡ left (needed_by plan id) (usable_of heap)
    carved-to zero within = fresh-left (usable_of heap)
    carved-to (suc id) within =
        let one : suc id ≡ id + 1 = omega arith in
        let more = needed-more id in
        let room : needed_by plan (id + 1) ≤ usable_of heap = subst (λ (n : ℕ). needed_by plan n ≤ usable_of heap) one within in
        let before : needed_by plan id ≤ usable_of heap = omega (arith, room, more) in
        ap (λ (n : ℕ). (heap_by heap n).holes) one
        ∙ ap (λ (h : HeapView). h.holes) (sym (heap-more heap id))
        ∙ ap (carved (bytes id)) (carved-to id before)
        ∙ carved-left (bytes id) (needed_by plan id) (usable_of heap) (bytes-are id) (omega (arith, room, more))
        ∙ ap (λ (n : ℕ). left n (usable_of heap)) (sym more ∙ ap (needed_by plan) (sym one))

    -- both tests are one
    refusal-one : (kept : Record) (f : FwState) (id : ℕ) → needed_by plan id ≤ usable_of heap → f.heap ≡ heap_by heap id → own plan heap kept (Make id) ≡ own_at f (Make id)
    refusal-one kept f id within is = by (ltb heap (needed_by plan (id + 1))) refl ∙ ap (λ (b : Bool). cond b None (Some (errno no_memory))) (sym fits-is)
      where
        total : ℕ
        total = needed_by plan id + bytes id

        fits-is : fits (bytes id) f.heap.holes ≡ leb total (usable_of heap)
        fits-is = ap (λ (h : HeapView). fits (bytes id) h.holes) is ∙ ap (fits (bytes id)) (carved-to id within) ∙ fits-left (bytes id) (needed_by plan id) (usable_of heap) (bytes-are id) within

        by : (b : Bool) → ltb heap (needed_by plan (id + 1)) ≡ b → ◌≡◌ {A = Option Errno} (cond b (Some (errno no_memory)) None) (cond (leb total (usable_of heap)) None (Some (errno no_memory)))
        by true is = ap (λ (b : Bool). cond b None (Some (errno no_memory))) (sym (lt-leb total (usable_of heap) (let over = ltb-true heap (needed_by plan (id + 1)) is in omega (arith, over, needed-more id))))
        by false is = ap (λ (b : Bool). cond b None (Some (errno no_memory))) (sym (le-leb total (usable_of heap) (let under = ltb-false heap (needed_by plan (id + 1)) is in omega (arith, under, needed-more id, needed-whole (id + 1)))))

    refused-where : (b : Bool) → ◌≡◌ {A = Option Errno} (cond b (Some (errno no_memory)) None) None → b ≡ false
    refused-where true is = absurd (cc is)
    refused-where false is = refl

    refused-with : (b : Bool) (e : Errno) → ◌≡◌ {A = Option Errno} (cond b (Some (errno no_memory)) None) (Some e) → (b ≡ true) × (e ≡ errno no_memory)
    refused-with true e is = (refl, cc is)
    refused-with false e is = absurd (cc is)

    -- up to a widget that is not refused the sizes fit
    pub room-for : (kept : Record) (id : ℕ) → own plan heap kept (Make id) ≡ None → needed_by plan (id + 1) ≤ usable_of heap
    room-for kept id free = let under = ltb-false heap (needed_by plan (id + 1)) (refused-where (ltb heap (needed_by plan (id + 1))) free) in omega (arith, under, needed-whole (id + 1))

    -- and where one is refused, not all of them do
    pub refused-number : (kept : Record) (id : ℕ) → id < length plan.widgets → (e : Errno) → own plan heap kept (Make id) ≡ Some e → (e ≡ errno no_memory) × (heap < needed_by plan (length plan.widgets))
    refused-number kept id low e refused =
        let is = refused-with (ltb heap (needed_by plan (id + 1))) e refused in
        let k : id + 1 + (length plan.widgets - (id + 1)) ≡ length plan.widgets = omega arith in
        let bound : needed_by plan (id + 1) ≤ needed_by plan (length plan.widgets) = subst (λ (m : ℕ). needed_by plan (id + 1) ≤ needed_by plan m) k (needed-rises (id + 1) (length plan.widgets - (id + 1))) in
        (is.1, omega (arith, ltb-true heap (needed_by plan (id + 1)) is.0, bound))

    -- where none of them is refused, all of them fit
    pub free-fits : (kept : Record) (k n : ℕ) (rest : List Act) → n + k ≡ length plan.widgets → needed_by plan n ≤ heap → AllFree plan heap kept (map Make (range_with_len n k) ++ rest) → Fits plan heap
    free-fits kept zero n rest all fits free = let e : n ≡ length plan.widgets = omega (arith, all) in subst (λ (m : ℕ). needed_by plan m ≤ heap) e fits
    free-fits kept (suc k) n rest all fits free =
        free-fits kept k (n + 1) rest (omega (arith, all)) (ltb-false heap (needed_by plan (n + 1)) (refused-where (ltb heap (needed_by plan (n + 1))) free.0)) free.1

    -- ---- while all widgets are made by id, the firmware refuses what the sizes tell, and then the heap is that of the plan

    module _ (sound : IsSound plan) (kept : Record) where
      -- a widget that is made has its piece
      make-heap : (id : ℕ) → id < length plan.widgets → (f : FwState) → (effect (act_message plan (Make id)) f).heap ≡ heap_with_piece id (stated_bytes plan id) f.heap
      make-heap id low f = by (named-at plan sound id low)
        where
          Has : Message → Type 0
          Has m = (effect m f).heap ≡ heap_with_piece id (stated_bytes plan id) f.heap

          by : Names plan.graph id (widget_words plan id) → Has (act_message plan (Make id))
          by (inl x) = subst Has (sym (message-comp plan 0 sound id x)) (ap (λ (b : ℕ). heap_with_piece id b f.heap) (ap comp_bytes (kind-read x.comp.kind (control_of plan id) (widget_words plan id) x.is.format) ∙ sym (bytes-comp plan 0 sound id x)))
          by (inr (inl x)) = subst Has (sym (message-buffer plan 0 sound id x)) (ap (λ (b : ℕ). heap_with_piece id b f.heap) (sym (bytes-buffer plan 0 sound id x)))
          by (inr (inr x)) = subst Has (sym (message-pipe plan 0 sound id x)) (ap (λ (b : ℕ). heap_with_piece id b f.heap) (sym (bytes-pipe plan 0 sound id x)))

      -- as long as none is refused, each is refused by the holes where it is by the sizes
      abbrev pub AreOwn : FwState → List Act → Type 0
      AreOwn f [] = f.heap ≡ loaded_heap plan heap
      AreOwn f (act ∷ acts) = (own plan heap kept act ≡ own_at f act) × (own plan heap kept act ≡ None → AreOwn (effect (act_message plan act) f) acts)

      pub makes-own : (k n : ℕ) (f : FwState) → n + k ≡ length plan.widgets → f.heap ≡ heap_by heap n → needed_by plan n ≤ usable_of heap → (rest : List Act) → ((g : FwState) → g.heap ≡ loaded_heap plan heap → AreOwn g rest) → AreOwn f (map Make (range_with_len n k) ++ rest)
      makes-own zero n f all is room rest then = then f (is ∙ ap (heap_by heap) (let e : n ≡ length plan.widgets = omega (arith, all) in e))
      makes-own (suc k) n f all is room rest then = (
        refusal-one kept f n room is,
        λ free. makes-own k (n + 1) (effect (act_message plan (Make n)) f) (omega (arith, all))
            (make-heap n (omega (arith, all)) f ∙ ap (heap_with_piece n (stated_bytes plan n)) is ∙ heap-more heap n) (room-for kept n free) rest then,
      )
