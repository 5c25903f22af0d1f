-- Faults that are passed on.
use Rattle.std.proofs.Common.{◌≡◌, ◌⊎◌, inl, inr, Bool, true, false, cond, Result, Ok, Err, refl, ap}
use Rattle.tplg_model.specs.declared.fault.TplgFault.{TplgFault}
use Rattle.tplg_model.specs.declared.fault.TplgFault.TheVariants.{OutOfMemory, Magic, Abi, HeaderSize, Truncated, Payload, Name, ControlKind, Tokens}
use Rattle.tplg_model.specs.Outcomes.{Fails, ◌>>=◌}

-- a fault is want of memory, or the one that reading gives
pub fails_cases : {X : Type 0} (e : TplgFault) (read : Result X TplgFault) → Fails e read → (e ≡ OutOfMemory) ⊎ (read ≡ Err e)
fails_cases OutOfMemory read f = inl refl
fails_cases (Magic at) read f = inr f
fails_cases (Abi at v) read f = inr f
fails_cases (HeaderSize at) read f = inr f
fails_cases (Truncated at) read f = inr f
fails_cases (Payload at) read f = inr f
fails_cases (Name at) read f = inr f
fails_cases (ControlKind at kind) read f = inr f
fails_cases (Tokens at) read f = inr f

pub fails_from : {X : Type 0} (e : TplgFault) (read : Result X TplgFault) → (e ≡ OutOfMemory) ⊎ (read ≡ Err e) → Fails e read
fails_from OutOfMemory read f = tt
fails_from (Magic at) read (inl e) = absurd cc
fails_from (Magic at) read (inr f) = f
fails_from (Abi at v) read (inl e) = absurd cc
fails_from (Abi at v) read (inr f) = f
fails_from (HeaderSize at) read (inl e) = absurd cc
fails_from (HeaderSize at) read (inr f) = f
fails_from (Truncated at) read (inl e) = absurd cc
fails_from (Truncated at) read (inr f) = f
fails_from (Payload at) read (inl e) = absurd cc
fails_from (Payload at) read (inr f) = f
fails_from (Name at) read (inl e) = absurd cc
fails_from (Name at) read (inr f) = f
fails_from (ControlKind at kind) read (inl e) = absurd cc
fails_from (ControlKind at kind) read (inr f) = f
fails_from (Tokens at) read (inl e) = absurd cc
fails_from (Tokens at) read (inr f) = f

-- a fault of a step is one of the whole
pub fails_along : {X Y : Type 0} (e : TplgFault) (read : Result X TplgFault) (whole : Result Y TplgFault) → Fails e read → (read ≡ Err e → whole ≡ Err e) → Fails e whole
fails_along e read whole f along = fails_from e whole (step (fails_cases e read f))
  where
    step : ((e ≡ OutOfMemory) ⊎ (read ≡ Err e)) → (e ≡ OutOfMemory) ⊎ (whole ≡ Err e)
    step (inl m) = inl m
    step (inr r) = inr (along r)

-- ---- steps that may fail

pub bind_ok : {A B : Type 0} (r : Result A TplgFault) (f : A → Result B TplgFault) (y : B) → (r >>= f) ≡ Ok y → (x : A) × (r ≡ Ok x) × (f x ≡ Ok y)
bind_ok (Ok x) f y e = (x, refl, e)
bind_ok (Err d) f y e = absurd cc

pub data BindFails {A B : Type 0} (r : Result A TplgFault) (f : A → Result B TplgFault) (e : TplgFault) : Type 0 where
  At_first : r ≡ Err e → BindFails r f e
  Later : (x : A) → r ≡ Ok x → f x ≡ Err e → BindFails r f e

pub bind_err : {A B : Type 0} (r : Result A TplgFault) (f : A → Result B TplgFault) (e : TplgFault) → (r >>= f) ≡ Err e → BindFails r f e
bind_err (Ok x) f e h = Later x refl h
bind_err (Err d) f e h = let same : d ≡ e = cc in At_first (ap (λ (k : TplgFault). Err k) same)

pub ok_same : {A : Type 0} (x y : A) (r : Result A TplgFault) → r ≡ Ok x → r ≡ Ok y → x ≡ y
ok_same x y r d e = cc

-- a step and a last part that does not fail
pub only_first : {A B : Type 0} (r : Result A TplgFault) (g : A → B) (e : TplgFault) → (r >>= λ x. Ok (g x)) ≡ Err e → r ≡ Err e
only_first (Ok x) g e h = absurd cc
only_first (Err d) g e h = let same : d ≡ e = cc in ap (λ (k : TplgFault). Err k) same

-- ---- tests

-- a test that did not refuse
pub passed : {A : Type 0} (b : Bool) (f : TplgFault) (r : Result A TplgFault) (x : A) → cond b (Err f) r ≡ Ok x → (b ≡ false) × (r ≡ Ok x)
passed true f r x e = absurd cc
passed false f r x e = (refl, e)

pub passed_last : {A : Type 0} (b : Bool) (f : TplgFault) (x y : A) → cond b (Ok x) (Err f) ≡ Ok y → (b ≡ true) × (x ≡ y)
passed_last true f x y e = (refl, cc)
passed_last false f x y e = absurd cc

pub refused_last : {A : Type 0} (b : Bool) (d : TplgFault) (x : A) (f : TplgFault) → cond b (Ok x) (Err d) ≡ Err f → (b ≡ false) × (d ≡ f)
refused_last true d x f e = absurd cc
refused_last false d x f e = (refl, cc)
