-- What a part leaves of a unit, and of lists of components.
use Rattle.std.proofs.Common.{◌≡◌, refl, sym, ap, ◌∙◌, ℕ, List, [], ◌∷◌, map, filter, Bool, true, false, cond, ◌&&◌, ◌==◌, Some, ℤ, find, inl, inr}
use Rattle.std.proofs.lemmas.Bool.{true≢false, false≢true, eqb-true}
use Rattle.sof_base.specs.declared.part.Part.{Part}
use Rattle.eq_biquad.specs.EqState.{staged_of}
use Rattle.stream_law.specs.declared.graph.Comp.{Comp}
use Rattle.stream_law.specs.declared.graph.Setting.{Setting}
use Rattle.stream_law.specs.declared.graph.Setting.TheVariants.{Blob}
use Rattle.stream_law.specs.declared.stream.StreamView.{StreamView}
use Rattle.stream_law.specs.State.{View, RingView, History}
use Rattle.stream_law.specs.Seen.{flows, ring_seen, is_equaliser}
use Rattle.stream_law.proofs.Members.{IsIn}
use Rattle.mbox_link.specs.Step as rows
use Rattle.fw_units.specs.declared.component.Component.{Component}
use Rattle.fw_units.specs.declared.component.Unit as units
use Rattle.fw_units.specs.declared.component.Unit.TheVariants.{Host, Dai, Volume, Eq, Buffer}
use Rattle.fw_units.specs.Units.{comp_by, kind_by, setting_by, ramp_by, streams_by, with_stream_by}
use Rattle.fw_parts.specs.Staged.{staging_in, fits_behind}
use Rattle.fw_components.specs.Parts.{staging_one, joined_bytes, takes_part, parted_unit, parted_by, parted_at}
use Rattle.fw_core.proofs.Seats.{seat}
use Rattle.fw_core.proofs.Histories.{history}
use Rattle.fw_core.proofs.Shapes.{moves, frames, unit_lengths, lengths}

-- ---- what a part leaves of a unit

module _ (id : ℕ) (part : Part) (words : List ℤ) where
  pub parted-kind : (u : units.Unit) → kind_by (parted_unit id part words u) ≡ kind_by u
  parted-kind (Buffer size ring source sink) = refl
  parted-kind u = refl

  parted-length : (u : units.Unit) → unit_lengths (parted_unit id part words u) ≡ unit_lengths u
  parted-length (Buffer size ring source sink) = refl
  parted-length (Volume gains ramp from done over piece) = refl
  parted-length u = refl

  parted-stream : (u : units.Unit) (ss : List StreamView) → with_stream_by id (parted_unit id part words u) ss ≡ with_stream_by id u ss
  parted-stream (Buffer size ring source sink) ss = refl
  parted-stream u ss = refl

  parted-seat : (pipe channels : ℕ) (u : units.Unit) → seat (record { id = id; pipe = pipe; channels = channels; unit = parted_unit id part words u }) ≡ seat (record { id = id; pipe = pipe; channels = channels; unit = u })
  parted-seat pipe channels (Buffer size ring source sink) = refl
  parted-seat pipe channels u = refl

  -- the blob in force is that of the last part, and stays with any other
  pub parted-setting : (u : units.Unit) → takes_part id u part ≡ true → setting_by (parted_unit id part words u) ≡ cond (part.remaining == 0) (Blob (joined_bytes id u part)) (setting_by u)
  parted-setting (Eq eq next remaining) taken = by (part.remaining == 0)
    where
      by : (h : Bool) → Blob (cond h (rows.staged_bytes (staging_in id (staged_of eq) next remaining) part) eq.blob) ≡ cond h (Blob (rows.staged_bytes (staging_in id (staged_of eq) next remaining) part)) (Blob eq.blob)
      by true = refl
      by false = refl
  parted-setting u taken = absurd (false≢true taken)

-- which parts a unit takes is what the row asks of its kind and of what is staged
pub takes-row : (id : ℕ) (u : units.Unit) (part : Part) → takes_part id u part ≡ (is_equaliser (kind_by u) && fits_behind (staging_one id u) part)
takes-row id (Host true phase params piece) part = refl
takes-row id (Host false phase params piece) part = refl
takes-row id (Dai true format piece) part = refl
takes-row id (Dai false format piece) part = refl
takes-row id u part = refl

-- ---- and of lists of components

module _ (id : ℕ) (part : Part) (words : List ℤ) where
  pub parted-id : (c : Component) → (parted_at id part words c).id ≡ c.id
  parted-id c = by (c.id == id)
    where
      by : (h : Bool) → (cond {A = Component} h (parted_by part words c) c).id ≡ c.id
      by true = refl
      by false = refl

  pub parted-moves : (c : Component) → moves (parted_at id part words c) ≡ moves c
  parted-moves c = by (c.id == id)
    where
      by : (h : Bool) → moves (cond h (parted_by part words c) c) ≡ moves c
      by true = refl
      by false = refl

  pub parted-lengths : (c : Component) → lengths (parted_at id part words c) ≡ lengths c
  parted-lengths c = by (c.id == id)
    where
      by : (h : Bool) → lengths (cond h (parted_by part words c) c) ≡ lengths c
      by true = parted-length c.id part words c.unit
      by false = refl

  pub seat-parted : (c : Component) → seat (parted_at id part words c) ≡ seat c
  seat-parted c = by (c.id == id)
    where
      by : (h : Bool) → seat (cond h (parted_by part words c) c) ≡ seat c
      by true = parted-seat c.id part words c.pipe c.channels c.unit
      by false = refl

  pub parted-streams : (cs : List Component) → streams_by (map (parted_at id part words) cs) ≡ streams_by cs
  parted-streams [] = refl
  parted-streams (c ∷ cs) = by (c.id == id) (parted-streams cs)
    where
      by : (h : Bool) → streams_by (map (parted_at id part words) cs) ≡ streams_by cs → streams_by (cond h (parted_by part words c) c ∷ map (parted_at id part words) cs) ≡ with_stream_by c.id c.unit (streams_by cs)
      by true rest = parted-stream c.id part words c.unit (streams_by (map (parted_at id part words) cs)) ∙ ap (with_stream_by c.id c.unit) rest
      by false rest = ap (with_stream_by c.id c.unit) rest

  -- the component of the id has another setting
  pub parted-comps : (c : Component) (setting : Setting) → setting_by (parted_by part words c).unit ≡ setting → (cs : List Component) → ((d : Component) → IsIn d cs → d.id ≡ id → d ≡ c) → map comp_by (map (parted_at id part words) cs) ≡ map (rows.with_setting id setting) (map comp_by cs)
  parted-comps c setting is [] one = refl
  parted-comps c setting is (d ∷ cs) one = ap (λ (p : Comp × List Comp). p.0 ∷ p.1) (λ i. (at (d.id == id) refl i, parted-comps c setting is cs (λ e there. one e (inr there)) i))
    where
      at : (h : Bool) → (d.id == id) ≡ h → comp_by (cond h (parted_by part words d) d) ≡ cond h (record { id = d.id; kind = kind_by d.unit; pipe = d.pipe; setting = setting; ramp = ramp_by d.unit }) (comp_by d)
      at true same = λ i. record { id = d.id; kind = parted-kind d.id part words d.unit i; pipe = d.pipe; setting = (ap (λ (e : Component). setting_by (parted_by part words e).unit) (one d (inl refl) (eqb-true d.id id same)) ∙ is) i; ramp = (parted-length d.id part words d.unit i).1 }
      at false same = refl

  -- or none has, where it keeps its own
  pub same-settings : (c : Component) → setting_by (parted_by part words c).unit ≡ setting_by c.unit → (cs : List Component) → ((d : Component) → IsIn d cs → d.id ≡ id → d ≡ c) → map comp_by (map (parted_at id part words) cs) ≡ map comp_by cs
  same-settings c is [] one = refl
  same-settings c is (d ∷ cs) one = ap (λ (p : Comp × List Comp). p.0 ∷ p.1) (λ i. (at (d.id == id) refl i, same-settings c is cs (λ e there. one e (inr there)) i))
    where
      at : (h : Bool) → (d.id == id) ≡ h → comp_by (cond h (parted_by part words d) d) ≡ comp_by d
      at true same = λ i. record { id = d.id; kind = parted-kind d.id part words d.unit i; pipe = d.pipe; setting = (ap (λ (e : Component). setting_by (parted_by part words e).unit) (one d (inl refl) (eqb-true d.id id same)) ∙ is ∙ ap (λ (e : Component). setting_by e.unit) (sym (one d (inl refl) (eqb-true d.id id same)))) i; ramp = (parted-length d.id part words d.unit i).1 }
      at false same = refl

-- numbers of components that pass, where a change leaves ids and numbers
pub histories-kept : (q : ℕ → Bool) (f : Component → Component) (cs : List Component) → ((c : Component) → (f c).id ≡ c.id) → ((c : Component) → IsIn c cs → history (f c) ≡ history c) → map history (filter (λ c. q c.id) (map f cs)) ≡ map history (filter (λ c. q c.id) cs)
histories-kept q f [] ids same = refl
histories-kept q f (c ∷ cs) ids same = ap (λ h. map history (cond h (f c ∷ filter (λ c. q c.id) (map f cs)) (filter (λ c. q c.id) (map f cs)))) (ap q (ids c)) ∙ by (q c.id) (histories-kept q f cs ids (λ d there. same d (inr there)))
  where
    by : (h : Bool) → map history (filter (λ c. q c.id) (map f cs)) ≡ map history (filter (λ c. q c.id) cs) → map history (cond h (f c ∷ filter (λ c. q c.id) (map f cs)) (filter (λ c. q c.id) (map f cs))) ≡ map history (cond h (c ∷ filter (λ c. q c.id) cs) (filter (λ c. q c.id) cs))
    by true rest = ap (λ (p : History × List History). p.0 ∷ p.1) (λ i. (same c (inl refl) i, rest i))
    by false rest = rest

pub find-filter : (p q : Component → Bool) (cs : List Component) (c : Component) → find p cs ≡ Some c → q c ≡ true → find p (filter q cs) ≡ Some c
find-filter p q [] c at e = absurd (cc at)
find-filter p q (d ∷ cs) c at e = by (p d) refl at (q d) refl (find-filter p q cs c)
  where
    by : (h : Bool) → p d ≡ h → cond h (Some d) (find p cs) ≡ Some c → (k : Bool) → q d ≡ k → (find p cs ≡ Some c → q c ≡ true → find p (filter q cs) ≡ Some c) → find p (cond k (d ∷ filter q cs) (filter q cs)) ≡ Some c
    by true is at true so rest = ap (λ h. cond h (Some d) (find p (filter q cs))) is ∙ at
    by true is at false so rest = let same : d ≡ c = cc at in absurd (true≢false (sym e ∙ ap q (sym same) ∙ so))
    by false is at true so rest = ap (λ h. cond h (Some d) (find p (filter q cs))) is ∙ rest at e
    by false is at false so rest = rest at e

pub rings-alike : (v w : View) → ((b : ℕ) → flows w b ≡ flows v b) → (rs : List RingView) → map (ring_seen w) rs ≡ map (ring_seen v) rs
rings-alike v w same [] = refl
rings-alike v w same (r ∷ rs) = ap (λ (p : Bool × List RingView). let x : RingView = record { buffer = r.buffer; frames = cond p.0 r.frames [] } in x ∷ p.1) (λ i. (same r.buffer i, rings-alike v w same rs i))
