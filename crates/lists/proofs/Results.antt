-- What holds for a result, from what else holds for it. It is here because the crates above share it.
use Rattle.std.proofs.Common.{◌≡◌, Result, Ok, Err, OnOk, OnErr, IfErr, sym, subst, IfOk}

module _ {T E : Type 0} where
  -- on success
  pub then_ok : {P Q : Type 0} (r : Result T E) → OnOk r P → (P → Q) → OnOk r Q
  then_ok (Ok x) p q = q p
  then_ok (Err e) p q = tt

  -- for the value
  pub then_value : {P Q : T → Type 0} (r : Result T E) → IfOk r P → ((x : T) → P x → Q x) → IfOk r Q
  then_value (Ok x) p q = q x p
  then_value (Err e) p q = tt

  -- for an error
  pub then_err : {P Q : E → Type 0} (r : Result T E) → IfErr r P → ((e : E) → P e → Q e) → IfErr r Q
  then_err (Ok x) p q = tt
  then_err (Err e) p q = q e p

  pub if_err : {Q : E → Type 0} (r : Result T E) → ((e : E) → Q e) → IfErr r Q
  if_err (Ok x) q = tt
  if_err (Err e) q = q e

  pub on_err : {Q : Type 0} (r : Result T E) → Q → OnErr r Q
  on_err (Ok x) q = tt
  on_err (Err e) q = q

  -- for the error that is returned
  pub of_err : (Q : E → Type 0) (r : Result T E) (e : E) → r ≡ Err e → Q e → IfErr r Q
  of_err Q r e is q = subst (λ z. IfErr z Q) (sym is) q
