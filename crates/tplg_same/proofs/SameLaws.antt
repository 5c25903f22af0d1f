-- The test on two plans, and when they are the same.
use Rattle.std.proofs.Common.{◌≡◌, ℕ, List, [], ◌∷◌, map, Bool, true, false, ◌&&◌, ◌==◌, if◌then◌else◌, Option, Some, None, get_or, drop, refl, sym, ap, subst, ◌∙◌, arith}
use Rattle.std.specs.Str.{bytes_eq}
use Rattle.std.proofs.lemmas.Slice.Eq.{bytes_eq-Decides}
use Rattle.std.proofs.lemmas.Bool.Decides.{Decides-int_eq}
use Rattle.sof_base.specs.declared.format.Format.TheVariants.{S16, S24, S32}
use Rattle.stream_law.specs.declared.graph.Kind.{Kind}
use Rattle.stream_law.specs.declared.graph.Comp.{Comp}
use Rattle.stream_law.specs.declared.graph.Edge.{Edge}
use Rattle.stream_law.specs.declared.graph.Pipe.{Pipe}
use Rattle.stream_law.specs.declared.graph.Join.{Join}
use Rattle.stream_law.specs.declared.graph.Kind.TheVariants as kind
use Rattle.stream_law.specs.declared.graph.Setting.{Setting}
use Rattle.stream_law.specs.declared.graph.Setting.TheVariants as setting
use Rattle.stream_law.specs.declared.graph.Graph.{Graph}
use Rattle.tplg_plan.specs.declared.plans.StreamPlan.{StreamPlan}
use Rattle.tplg_plan.specs.declared.plans.ControlPlan.{ControlPlan}
use Rattle.tplg_plan.specs.declared.plans.ControlKind.{ControlKind}
use Rattle.tplg_plan.specs.declared.plans.ControlKind.TheVariants as control
use Rattle.tplg_build.specs.declared.source.PcmLimits.{PcmLimits}
use Rattle.tplg_same.specs.CapsLimits.{limits_in, same_limits}
use Rattle.tplg_same.specs.SamePlan.{StreamShape, PlanShape, stream_shape, IsSamePlan}
use Rattle.tplg_plan.specs.declared.plans.Plan.{Plan}
use Rattle.tplg_plan.specs.declared.plans.WidgetPlan.{WidgetPlan}
use Rattle.tplg_same.specs.SameTest.{same_list, same_option, same_bool, same_edge, same_join, same_pipe, same_widget, same_setting, same_comp, same_graph, same_control_kind, same_control, same_stream, same_plans, kind_rank}

-- both halves of a test
pub left : (a b : Bool) → (a && b) ≡ true → a ≡ true
left true b h = refl
left false b h = h

pub right : (a b : Bool) → (a && b) ≡ true → b ≡ true
right a b h = grind arith

pub equal : (a b : ℕ) → (a == b) ≡ true → a ≡ b
equal a b h = grind arith

module _ {A : Type 0} (same : A → A → Bool) (is : (x y : A) → same x y ≡ true → x ≡ y) where
  pub list-is : (xs ys : List A) → same_list same xs ys ≡ true → xs ≡ ys
  list-is [] [] h = refl
  list-is (x ∷ xs) (y ∷ ys) h =
      ap (λ z. z ∷ xs) (is x y (left (same x y) (same_list same xs ys) h)) ∙ ap (λ zs. y ∷ zs) (list-is xs ys (right (same x y) (same_list same xs ys) h))
  list-is [] (y ∷ ys) h = grind arith
  list-is (x ∷ xs) [] h = grind arith

pub join-is : (a b : Join) → same_join a b ≡ true → a ≡ b
join-is a b h = grind arith

pub bool-is : (a b : Bool) → same_bool a b ≡ true → a ≡ b
bool-is true true h = refl
bool-is false false h = refl
bool-is true false h = sym h
bool-is false true h = h

pub option-is : (a b : Option ℕ) → same_option a b ≡ true → a ≡ b
option-is None None h = refl
option-is (Some a) (Some b) h = ap Some (equal a b h)
option-is None (Some b) h = grind arith
option-is (Some a) None h = grind arith

pub edge-is : (a b : Edge) → same_edge a b ≡ true → a ≡ b
edge-is a b h = grind (arith, option-is)

pub pipe-is : (a b : Pipe) → same_pipe a b ≡ true → a ≡ b
pipe-is a b h = grind (arith, bool-is)

pub widget-is : (a b : WidgetPlan) → same_widget a b ≡ true → a ≡ b
widget-is a b h = grind arith

-- ---- kinds, settings and controls

kind_by : ℕ → Kind
kind_by n =
    if n == 0 then kind.HostPlay else if n == 1 then kind.HostCapture else if n == 2 then kind.Volume else if n == 3 then kind.Mixer
    else if n == 4 then kind.Mux else if n == 5 then kind.Eq else if n == 6 then kind.Demux
    else if n == 7 then kind.DaiPlay S16 else if n == 8 then kind.DaiPlay S24 else if n == 9 then kind.DaiPlay S32
    else if n == 10 then kind.DaiCapture S16 else if n == 11 then kind.DaiCapture S24 else kind.DaiCapture S32

kind-back : (k : Kind) → kind_by (kind_rank k) ≡ k
unfolding kind_by
kind-back kind.HostPlay = refl
kind-back kind.HostCapture = refl
kind-back kind.Volume = refl
kind-back kind.Mixer = refl
kind-back kind.Mux = refl
kind-back kind.Eq = refl
kind-back kind.Demux = refl
kind-back (kind.DaiPlay S16) = refl
kind-back (kind.DaiPlay S24) = refl
kind-back (kind.DaiPlay S32) = refl
kind-back (kind.DaiCapture S16) = refl
kind-back (kind.DaiCapture S24) = refl
kind-back (kind.DaiCapture S32) = refl

pub rank-is : (a b : Kind) → (kind_rank a == kind_rank b) ≡ true → a ≡ b
rank-is a b h = sym (kind-back a) ∙ ap kind_by (equal (kind_rank a) (kind_rank b) h) ∙ kind-back b

pub name-is : (a b : List ℕ) → bytes_eq a b ≡ true → a ≡ b
name-is a b h = (bytes_eq-Decides a b).0 h

pub setting-is : (a b : Setting) → same_setting a b ≡ true → a ≡ b
setting-is setting.Nothing setting.Nothing h = refl
setting-is (setting.Gains a) (setting.Gains b) h = ap setting.Gains (list-is (λ x y. x == y) equal a b h)
setting-is (setting.Choice a) (setting.Choice b) h = ap setting.Choice (equal a b h)
setting-is (setting.Blob a) (setting.Blob b) h = ap setting.Blob (name-is a b h)
setting-is (setting.Masks a) (setting.Masks b) h = ap setting.Masks (list-is (λ x y. x == y) equal a b h)
setting-is _ _ h = grind arith

four : (a b c d : Bool) → (a && (b && (c && d))) ≡ true → (a ≡ true) × (b ≡ true) × (c ≡ true) × (d ≡ true)
four a b c d h = grind arith

abbrev comp_with : ℕ → Kind → ℕ → Setting → ℕ → Comp
comp_with id kind pipe setting ramp = record { id = id; kind = kind; pipe = pipe; setting = setting; ramp = ramp }

abbrev shape_with : ℕ → Bool → List ℕ → PcmLimits → StreamShape
shape_with host capture name limits = record { host = host; capture = capture; name = name; limits = limits }

abbrev control_with : ℕ → ControlKind → ControlPlan
control_with comp kind = record { comp = comp; kind = kind }

abbrev plan_with : Graph → List StreamShape → List ControlPlan → List (List ℕ) → List WidgetPlan → PlanShape
plan_with graph streams controls names widgets = record { graph = graph; streams = streams; controls = controls; names = names; widgets = widgets }

pub comp-is : (a b : Comp) → same_comp a b ≡ true → a ≡ b
comp-is a b h =
    let ramps = a.ramp == b.ramp in
    let settings = same_setting a.setting b.setting in
    let t = four (a.id == b.id) (kind_rank a.kind == kind_rank b.kind) (a.pipe == b.pipe) (ramps && settings) h in
    ap (λ x. comp_with x a.kind a.pipe a.setting a.ramp) (equal a.id b.id t.0) ∙ ap (λ x. comp_with b.id x a.pipe a.setting a.ramp) (rank-is a.kind b.kind t.1)
    ∙ ap (λ x. comp_with b.id b.kind x a.setting a.ramp) (equal a.pipe b.pipe t.2)
    ∙ ap (λ x. comp_with b.id b.kind b.pipe x a.ramp) (setting-is a.setting b.setting (right ramps settings t.3))
    ∙ ap (λ x. comp_with b.id b.kind b.pipe b.setting x) (equal a.ramp b.ramp (left ramps settings t.3))

pub graph-is : (a b : Graph) → same_graph a b ≡ true → a ≡ b
graph-is a b h = grind (arith, list-is same_comp comp-is, list-is same_edge edge-is, list-is same_pipe pipe-is, list-is same_join join-is)

pub limits-is : (a b : PcmLimits) → same_limits a b ≡ true → a ≡ b
limits-is a b h = grind arith

pub stream-is : (a b : StreamPlan) → same_stream a b ≡ true → stream_shape a ≡ stream_shape b
stream-is a b h =
    let t = four (a.host == b.host) (same_bool a.capture b.capture) (bytes_eq a.caps.name b.caps.name) (same_limits (limits_in a.caps) (limits_in b.caps)) h in
    ap (λ x. shape_with x a.capture a.caps.name (limits_in a.caps)) (equal a.host b.host t.0) ∙ ap (λ x. shape_with b.host x a.caps.name (limits_in a.caps)) (bool-is a.capture b.capture t.1)
    ∙ ap (λ x. shape_with b.host b.capture x (limits_in a.caps)) (name-is a.caps.name b.caps.name t.2) ∙ ap (λ x. shape_with b.host b.capture b.caps.name x) (limits-is (limits_in a.caps) (limits_in b.caps) t.3)

pub kind-is : (a b : ControlKind) → same_control_kind a b ≡ true → a ≡ b
kind-is (control.Volume a b c d e f) (control.Volume g h i j k l) is = grind (arith, Decides-int_eq)
kind-is (control.Choice a) (control.Choice b) is = ap control.Choice (equal a b is)
kind-is (control.Blob a b) (control.Blob c d) is =
    ap (λ x. control.Blob x b) (equal a c (left (a == c) (bytes_eq b d) is)) ∙ ap (λ x. control.Blob c x) (name-is b d (right (a == c) (bytes_eq b d) is))
kind-is (control.Masks a b c) (control.Masks d e f) is = grind arith
kind-is _ _ is = grind arith

pub control-is : (a b : ControlPlan) → same_control a b ≡ true → a ≡ b
control-is a b h =
    ap (λ x. control_with x a.kind) (equal a.comp b.comp (left (a.comp == b.comp) (same_control_kind a.kind b.kind) h)) ∙ ap (λ x. control_with b.comp x) (kind-is a.kind b.kind (right (a.comp == b.comp) (same_control_kind a.kind b.kind) h))

module _ {A B : Type 0} (same : A → A → Bool) (f : A → B) (is : (x y : A) → same x y ≡ true → f x ≡ f y) where
  pub shapes-are : (xs ys : List A) → same_list same xs ys ≡ true → map f xs ≡ map f ys
  shapes-are [] [] h = refl
  shapes-are (x ∷ xs) (y ∷ ys) h =
      ap (λ z. z ∷ map f xs) (is x y (left (same x y) (same_list same xs ys) h)) ∙ ap (λ zs. f y ∷ zs) (shapes-are xs ys (right (same x y) (same_list same xs ys) h))
  shapes-are [] (y ∷ ys) h = grind arith
  shapes-are (x ∷ xs) [] h = grind arith

pub plan-is : (p q : Plan) → same_plans p q ≡ true → IsSamePlan p q
plan-is p q h =
    let streams = same_list same_stream p.streams q.streams in
    let controls = same_list same_control p.controls q.controls in
    let names = same_list bytes_eq p.names q.names in
    let widgets = same_list same_widget p.widgets q.widgets in
    let t = four (same_graph p.graph q.graph) streams controls (names && widgets) h in
    ap (λ x. plan_with x (map stream_shape p.streams) p.controls p.names p.widgets) (graph-is p.graph q.graph t.0)
    ∙ ap (λ x. plan_with q.graph x p.controls p.names p.widgets) (shapes-are same_stream stream_shape stream-is p.streams q.streams t.1)
    ∙ ap (λ x. plan_with q.graph (map stream_shape q.streams) x p.names p.widgets) (list-is same_control control-is p.controls q.controls t.2)
    ∙ ap (λ x. plan_with q.graph (map stream_shape q.streams) q.controls x p.widgets) (list-is bytes_eq name-is p.names q.names (left names widgets t.3))
    ∙ ap (λ x. plan_with q.graph (map stream_shape q.streams) q.controls q.names x) (list-is same_widget widget-is p.widgets q.widgets (right names widgets t.3))

-- ---- and the other way: what is the same passes the test

pub equal-self : (a : ℕ) → (a == a) ≡ true
equal-self a = grind arith

pub all-four : (a b c d : Bool) → a ≡ true → b ≡ true → c ≡ true → d ≡ true → (a && (b && (c && d))) ≡ true
all-four a b c d h i j k = rw (h, i, j, k) refl

first-is : {A : Type 0} (x y : A) (xs ys : List A) → x ∷ xs ≡ y ∷ ys → x ≡ y
first-is x y xs ys h = ap (λ zs. get_or zs 0 x) h

rest-is : {A : Type 0} (x y : A) (xs ys : List A) → x ∷ xs ≡ y ∷ ys → xs ≡ ys
rest-is x y xs ys h = ap (λ zs. drop 1 zs) h

module _ {A B : Type 0} (same : A → A → Bool) (f : A → B) (is : (x y : A) → f x ≡ f y → same x y ≡ true) where
  pub pass : (xs ys : List A) → map f xs ≡ map f ys → same_list same xs ys ≡ true
  pass [] [] h = refl
  pass (x ∷ xs) (y ∷ ys) h = rw (is x y (first-is (f x) (f y) (map f xs) (map f ys) h), pass xs ys (rest-is (f x) (f y) (map f xs) (map f ys) h)) refl
  pass [] (y ∷ ys) h = grind arith
  pass (x ∷ xs) [] h = grind arith

module _ {A : Type 0} (same : A → A → Bool) (self : (x : A) → same x x ≡ true) where
  pub list-self : (xs : List A) → same_list same xs xs ≡ true
  list-self [] = refl
  list-self (x ∷ xs) = rw (self x, list-self xs) refl

pub bool-self : (a : Bool) → same_bool a a ≡ true
bool-self true = refl
bool-self false = refl

pub option-self : (a : Option ℕ) → same_option a a ≡ true
option-self None = refl
option-self (Some a) = equal-self a

pub name-self : (a : List ℕ) → bytes_eq a a ≡ true
name-self a = (bytes_eq-Decides a a).1 refl

pub setting-self : (a : Setting) → same_setting a a ≡ true
setting-self setting.Nothing = refl
setting-self (setting.Gains a) = list-self (λ x y. x == y) equal-self a
setting-self (setting.Choice a) = equal-self a
setting-self (setting.Blob a) = name-self a
setting-self (setting.Masks a) = list-self (λ x y. x == y) equal-self a

pub comp-self : (a : Comp) → same_comp a a ≡ true
comp-self a = rw (equal-self a.id, equal-self (kind_rank a.kind), equal-self a.pipe, equal-self a.ramp, setting-self a.setting) refl

pub edge-self : (a : Edge) → same_edge a a ≡ true
edge-self a = rw (equal-self a.buffer, equal-self a.pipe, equal-self a.size, option-self a.source, option-self a.sink) refl

pub pipe-self : (a : Pipe) → same_pipe a a ≡ true
pipe-self a = rw (equal-self a.id, equal-self a.index, equal-self a.sched, equal-self a.period, bool-self a.complete) refl

pub join-self : (a : Join) → same_join a a ≡ true
join-self a = rw (equal-self a.source, equal-self a.sink) refl

pub widget-self : (a : WidgetPlan) → same_widget a a ≡ true
widget-self a = rw (equal-self a.pipe, equal-self a.periods_sink, equal-self a.periods_source, equal-self a.frame_fmt, equal-self a.dai_index, equal-self a.caps, equal-self a.priority, equal-self a.mips, equal-self a.frames, equal-self a.time_domain, equal-self a.ramp_type, equal-self a.ramp_ms) refl

pub kind-self : (a : ControlKind) → same_control_kind a a ≡ true
kind-self (control.Volume a b c d e f) = rw (equal-self a, equal-self b, equal-self c, (Decides-int_eq d d).1 refl, equal-self e, equal-self f) refl
kind-self (control.Choice a) = equal-self a
kind-self (control.Blob a b) = rw (equal-self a, name-self b) refl
kind-self (control.Masks a b c) = rw (equal-self a, equal-self b, equal-self c) refl

pub control-self : (a : ControlPlan) → same_control a a ≡ true
control-self a = rw (equal-self a.comp, kind-self a.kind) refl

pub graph-self : (a : Graph) → same_graph a a ≡ true
graph-self a = all-four _ _ _ _ (list-self same_comp comp-self a.comps) (list-self same_edge edge-self a.edges) (list-self same_pipe pipe-self a.pipes) (list-self same_join join-self a.joins)

pub limits-self : (a : PcmLimits) → same_limits a a ≡ true
limits-self a = rw (equal-self a.formats, equal-self a.rate_min, equal-self a.rate_max, equal-self a.channels_min, equal-self a.channels_max) refl

pub stream-pass : (a b : StreamPlan) → stream_shape a ≡ stream_shape b → same_stream a b ≡ true
stream-pass a b h =
    let host : a.host ≡ b.host = ap (λ s. s.host) h in
    let capture : a.capture ≡ b.capture = ap (λ s. s.capture) h in
    let name : a.caps.name ≡ b.caps.name = ap (λ s. s.name) h in
    let limits : limits_in a.caps ≡ limits_in b.caps = ap (λ s. s.limits) h in
    all-four _ _ _ _ (subst (λ x. (a.host == x) ≡ true) host (equal-self a.host)) (subst (λ x. same_bool a.capture x ≡ true) capture (bool-self a.capture))
    (subst (λ x. bytes_eq a.caps.name x ≡ true) name (name-self a.caps.name)) (subst (λ x. same_limits (limits_in a.caps) x ≡ true) limits (limits-self (limits_in a.caps)))

pub plan-pass : (p q : Plan) → IsSamePlan p q → same_plans p q ≡ true
plan-pass p q h =
    let graph : p.graph ≡ q.graph = ap (λ s. s.graph) h in
    let streams : map stream_shape p.streams ≡ map stream_shape q.streams = ap (λ s. s.streams) h in
    let controls : p.controls ≡ q.controls = ap (λ s. s.controls) h in
    let names : p.names ≡ q.names = ap (λ s. s.names) h in
    let widgets : p.widgets ≡ q.widgets = ap (λ s. s.widgets) h in
    all-four _ _ _ _ (subst (λ x. same_graph p.graph x ≡ true) graph (graph-self p.graph)) (pass same_stream stream_shape stream-pass p.streams q.streams streams)
    (subst (λ x. same_list same_control p.controls x ≡ true) controls (list-self same_control control-self p.controls))
    (rw (subst (λ x. same_list bytes_eq p.names x ≡ true) names (list-self bytes_eq name-self p.names), subst (λ x. same_list same_widget p.widgets x ≡ true) widgets (list-self same_widget widget-self p.widgets)) refl)
