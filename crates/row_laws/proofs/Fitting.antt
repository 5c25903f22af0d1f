-- What is set at components is what may be set at their kinds.
use Rattle.std.proofs.Common.{◌≡◌, refl, sym, ap, ◌∙◌, subst, ℕ, zero, suc, ◌≤◌, List, [], ◌∷◌, map, length, replicate, min, Option, Some, None, Bool, true, false, cond, ◌==◌, ◌&&◌, inl, arith}
use Rattle.std.proofs.lemmas.Bool.{false≢true, and_parts, eqb-true, leb-true}
use Rattle.std.proofs.lemmas.List.{length-replicate}
use Rattle.std.specs.Prelude.{find, nat_le, option_and_then}
use Rattle.std.specs.List.{list_all, AllByRecursion}
use Rattle.stream_law.specs.declared.graph.Kind.{Kind}
use Rattle.stream_law.specs.declared.graph.Kind.TheVariants.{HostPlay, HostCapture, DaiPlay, DaiCapture, Volume, Mux, Demux}
use Rattle.stream_law.specs.declared.graph.Setting.{Setting}
use Rattle.stream_law.specs.declared.graph.Setting.TheVariants.{Nothing, Gains, Choice, Blob, Masks}
use Rattle.stream_law.specs.declared.graph.Comp.{Comp}
use Rattle.stream_law.specs.declared.graph.Graph.{Graph}
use Rattle.stream_law.specs.Placed.{HasDistinct}
use Rattle.stream_law.specs.Ways.{comp_of}
use Rattle.stream_law.specs.Made.{gains}
use Rattle.stream_law.specs.Seen.{is_volume}
use Rattle.ipc3_model.specs.declared.message.CompWords.{CompWords}
use Rattle.ipc3_model.specs.declared.message.CompWords.TheVariants as words
use Rattle.ipc3_model.specs.Meanings.{IsKind}
use Rattle.mbox_link.specs.Step.{sample_format, kind_of, first_setting, first_ramp, new_setting, with_setting}
use Rattle.row_laws.specs.Kept.{IsSettingOf, IsRampOf}
use Rattle.row_laws.proofs.Found.{found-each}
use Rattle.stream_law.proofs.Members.{in-all, find-in}

-- ---- at a new component

same-gains : (n : ℕ) → AllByRecursion (λ m. m ≤ 16777216) (replicate n 65536)
same-gains zero = tt
same-gains (suc n) = (omega arith, same-gains n)

-- masks that keep everything
all-through : (n : ℕ) → AllByRecursion (λ m. m ≤ 255) (replicate n 255)
all-through zero = tt
all-through (suc n) = (omega arith, all-through n)

pub first-fits : (kind : CompWords) (frame_fmt : ℕ) → IsKind kind frame_fmt → IsSettingOf (kind_of kind frame_fmt) (first_setting kind)
first-fits (words.Host direction) frame_fmt allowed = by (direction == 0)
  where
    by : (h : Bool) → IsSettingOf (cond h HostPlay HostCapture) Nothing
    by true = tt
    by false = tt
first-fits (words.Dai direction index) frame_fmt allowed = by (direction == 0)
  where
    by : (h : Bool) → IsSettingOf (cond h (DaiPlay (sample_format frame_fmt)) (DaiCapture (sample_format frame_fmt))) Nothing
    by true = tt
    by false = tt
first-fits (words.Volume channels min_value max_value ramp initial_ramp) frame_fmt allowed =
    let bounds = and_parts (nat_le 1 channels) (nat_le channels 8) allowed in
    let low : 1 ≤ channels = leb-true 1 channels bounds.0 in
    let high : channels ≤ 8 = leb-true channels 8 bounds.1 in
    let gain : ℕ = 65536 in
    let long : length (replicate channels gain) ≡ channels = length-replicate channels gain in
    ((omega (arith, low, long), omega (arith, high, long)), same-gains channels)
first-fits words.Mixer frame_fmt allowed = tt
first-fits words.Mux frame_fmt allowed = tt
first-fits words.Eq frame_fmt allowed = inl refl
first-fits words.Demux frame_fmt allowed = (refl, all-through 8)

-- and a ramp is a volume's
pub first-ramps : (kind : CompWords) (frame_fmt : ℕ) → IsRampOf (kind_of kind frame_fmt) (first_ramp kind)
first-ramps (words.Host direction) frame_fmt = by (direction == 0)
  where
    by : (h : Bool) → IsRampOf (cond h HostPlay HostCapture) 0
    by true = refl
    by false = refl
first-ramps (words.Dai direction index) frame_fmt = by (direction == 0)
  where
    by : (h : Bool) → IsRampOf (cond h (DaiPlay (sample_format frame_fmt)) (DaiCapture (sample_format frame_fmt))) 0
    by true = refl
    by false = refl
first-ramps (words.Volume channels min_value max_value ramp initial_ramp) frame_fmt = by (ramp == 0)
  where
    by : (h : Bool) → cond h (min initial_ramp 10000) 0 ≤ 10000
    by true = omega arith
    by false = omega arith
first-ramps words.Mixer frame_fmt = refl
first-ramps words.Mux frame_fmt = refl
first-ramps words.Eq frame_fmt = refl
first-ramps words.Demux frame_fmt = refl

-- ---- by values

all-low : (ns : List ℕ) → list_all (λ v. nat_le v 16777216) ns ≡ true → AllByRecursion (λ n. n ≤ 16777216) ns
all-low [] all = tt
all-low (n ∷ ns) all = let parts = and_parts (nat_le n 16777216) (list_all (λ v. nat_le v 16777216) ns) all in (leb-true n 16777216 parts.0, all-low ns parts.1)

new-gains : (h : Bool) (command : ℕ) (list values : List ℕ) (setting : Setting) → (command == 0 && (length values == length list && list_all (λ v. nat_le v 16777216) values)) ≡ h → cond h (Some (Gains values)) None ≡ Some setting → IsSettingOf Volume (Gains list) → IsSettingOf Volume setting
new-gains false command list values setting test is fits = absurd (cc is)
new-gains true command list values setting test is fits =
    let same : Gains values ≡ setting = cc is in
    let parts = and_parts (length values == length list) (list_all (λ v. nat_le v 16777216) values) (and_parts (command == 0) _ test).1 in
    let long : length values ≡ length list = eqb-true (length values) (length list) parts.0 in
    subst (IsSettingOf Volume) same ((omega (arith, long, fits.0.0), omega (arith, long, fits.0.1)), all-low values parts.1)

new-choice : (h : Bool) (k : ℕ) (setting : Setting) → cond h (Some (Choice k)) None ≡ Some setting → IsSettingOf Mux setting
new-choice true k setting is = let same : Choice k ≡ setting = cc is in subst (IsSettingOf Mux) same tt
new-choice false k setting is = absurd (cc is)

all-bytes : (ns : List ℕ) → list_all (λ v. nat_le v 255) ns ≡ true → AllByRecursion (λ n. n ≤ 255) ns
all-bytes [] all = tt
all-bytes (n ∷ ns) all = let parts = and_parts (nat_le n 255) (list_all (λ v. nat_le v 255) ns) all in (leb-true n 255 parts.0, all-bytes ns parts.1)

new-masks : (h : Bool) (command : ℕ) (values : List ℕ) (setting : Setting) → (command == 2 && (length values == 8 && list_all (λ v. nat_le v 255) values)) ≡ h → cond h (Some (Masks values)) None ≡ Some setting → IsSettingOf Demux setting
new-masks false command values setting test is = absurd (cc is)
new-masks true command values setting test is =
    let same : Masks values ≡ setting = cc is in
    let parts = and_parts (length values == 8) (list_all (λ v. nat_le v 255) values) (and_parts (command == 2) _ test).1 in
    subst (IsSettingOf Demux) same (eqb-true (length values) 8 parts.0, all-bytes values parts.1)

new-fits : (kind : Kind) (old : Setting) (command : ℕ) (values : List ℕ) (setting : Setting) → IsSettingOf kind old → new_setting kind old command values ≡ Some setting → IsSettingOf kind setting
new-fits Volume (Gains list) command values setting fits is = new-gains (command == 0 && (length values == length list && list_all (λ v. nat_le v 16777216) values)) command list values setting refl is fits
new-fits Volume Nothing command values setting fits is = absurd fits
new-fits Volume (Choice k) command values setting fits is = absurd fits
new-fits Volume (Blob bytes) command values setting fits is = absurd fits
new-fits Volume (Masks masks) command values setting fits is = absurd fits
new-fits Demux old command values setting fits is = new-masks (command == 2 && (length values == 8 && list_all (λ v. nat_le v 255) values)) command values setting refl is
new-fits Mux old command [] setting fits is = absurd (cc is)
new-fits Mux old command (v ∷ []) setting fits is = new-choice (command == 1) v setting is
new-fits Mux old command (v ∷ w ∷ values) setting fits is = absurd (cc is)
new-fits HostPlay old command values setting fits is = absurd (cc is)
new-fits kind old command values setting fits is = absurd (cc is)

-- a volume gets as many gains as it has
new-many : (kind : Kind) (old : Setting) (command : ℕ) (values : List ℕ) (setting : Setting) → IsSettingOf kind old → new_setting kind old command values ≡ Some setting → is_volume kind ≡ true → length (gains setting) ≡ length (gains old)
new-many Volume (Gains list) command values setting fits is volume = by (command == 0 && (length values == length list && list_all (λ v. nat_le v 16777216) values)) refl is
  where
    by : (h : Bool) → (command == 0 && (length values == length list && list_all (λ v. nat_le v 16777216) values)) ≡ h → cond h (Some (Gains values)) None ≡ Some setting → length (gains setting) ≡ length list
    by false test e = absurd (cc e)
    by true test e =
        let same : Gains values ≡ setting = cc e in
        let parts = and_parts (length values == length list) (list_all (λ v. nat_le v 16777216) values) (and_parts (command == 0) _ test).1 in
        sym (ap (λ s. length (gains s)) same) ∙ eqb-true (length values) (length list) parts.0
new-many Volume Nothing command values setting fits is volume = absurd fits
new-many Volume (Choice k) command values setting fits is volume = absurd fits
new-many Volume (Blob bytes) command values setting fits is volume = absurd fits
new-many Volume (Masks masks) command values setting fits is volume = absurd fits
new-many kind old command values setting fits is volume = absurd (false≢true volume)

-- values fit what is found
pub values-fit : (g : Graph) (id command : ℕ) (values : List ℕ) (setting : Setting) → AllByRecursion (λ c. IsSettingOf c.kind c.setting) g.comps → option_and_then (λ (c : Comp). new_setting c.kind c.setting command values) (comp_of g id) ≡ Some setting → (c : Comp) → comp_of g id ≡ Some c → IsSettingOf c.kind setting
values-fit g id command values setting fits named c found =
    new-fits c.kind c.setting command values setting
    (in-all (λ (x : Comp). IsSettingOf x.kind x.setting) g.comps c fits (find-in (λ x. x.id == id) g.comps c found).0)
    (sym (ap (λ (o : Option Comp). option_and_then (λ (x : Comp). new_setting x.kind x.setting command values) o) found) ∙ named)

pub values-many : (g : Graph) (id command : ℕ) (values : List ℕ) (setting : Setting) → AllByRecursion (λ c. IsSettingOf c.kind c.setting) g.comps → option_and_then (λ (c : Comp). new_setting c.kind c.setting command values) (comp_of g id) ≡ Some setting → (c : Comp) → comp_of g id ≡ Some c → is_volume c.kind ≡ true → length (gains setting) ≡ length (gains c.setting)
values-many g id command values setting fits named c found =
    new-many c.kind c.setting command values setting
    (in-all (λ (x : Comp). IsSettingOf x.kind x.setting) g.comps c fits (find-in (λ x. x.id == id) g.comps c found).0)
    (sym (ap (λ (o : Option Comp). option_and_then (λ (x : Comp). new_setting x.kind x.setting command values) o) found) ∙ named)

-- and so they do everywhere, where no two components have one id
pub all-set : (id : ℕ) (setting : Setting) (comps : List Comp) → HasDistinct (λ c. c.id) comps → ((c : Comp) → find (λ x. x.id == id) comps ≡ Some c → IsSettingOf c.kind setting) → AllByRecursion (λ c. IsSettingOf c.kind c.setting) comps → AllByRecursion (λ c. IsSettingOf c.kind c.setting) (map (with_setting id setting) comps)
all-set id setting comps distinct right fits = each comps (found-each (λ (c : Comp). c.id) comps distinct) fits
  where
    one : (c : Comp) (h : Bool) → (c.id == id) ≡ h → find (λ x. x.id == c.id) comps ≡ Some c → IsSettingOf c.kind c.setting → IsSettingOf (cond h (record c { setting = setting }) c).kind (cond h (record c { setting = setting }) c).setting
    one c true same found was = right c (ap (λ n. find (λ x. x.id == n) comps) (sym (eqb-true c.id id same)) ∙ found)
    one c false same found was = was

    each : (cs : List Comp) → AllByRecursion (λ c. find (λ x. x.id == c.id) comps ≡ Some c) cs → AllByRecursion (λ c. IsSettingOf c.kind c.setting) cs → AllByRecursion (λ c. IsSettingOf c.kind c.setting) (map (with_setting id setting) cs)
    each [] found was = tt
    each (c ∷ cs) found was = (one c (c.id == id) refl found.0 was.0, each cs found.1 was.1)
