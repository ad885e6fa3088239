-- The items of an array as whole numbers.
use Rattle.std.proofs.Common.{arith, ◌≡◌, ◌∙◌, ◌≤◌, ◌<◌, ◌+◌, ℕ, List, [], ◌∷◌, ◌++◌, length, get_or, drop, Option, Some, None, option_map, sym, ap, append_assoc}
use Rattle.std.specs.Prelude.{option_and_then}
use Rattle.std.proofs.lemmas.List.{at_drop_more, at_drop_all, append-nil}
use Rattle.serde_json.specs.View.{view, items_view}
use Rattle.serde_json.specs.declared.value.Value.{Value}
use Rattle.ring_script.specs.FieldReading.{whole_of, wholes_of}

no_whole : (w : Option ℕ) (o : Option (List ℕ)) → w ≡ None → option_and_then (λ n. option_map (λ ns. n ∷ ns) o) w ≡ None
no_whole w o e = rw e

pub not_whole : (list : List Value) (i : ℕ) (d : Value) (done : List ℕ) → i < length list → d ≡ get_or list i d → None ≡ whole_of (view d) → option_map (λ ns. done ++ ns) (wholes_of (items_view (drop i list))) ≡ None
unfolding wholes_of
not_whole list i d done h is e =
    at_drop_more (λ vs. option_map (λ ns. done ++ ns) (wholes_of (items_view vs))) list i d h
    ∙ ap (option_map (λ ns. done ++ ns)) (no_whole _ _ (ap (λ v. whole_of (view v)) (sym is) ∙ sym e))

one_more : (w : Option ℕ) (o : Option (List ℕ)) (n : ℕ) (done : List ℕ) → Some n ≡ w
    → option_map (λ ns. done ++ ns) (option_and_then (λ n. option_map (λ ns. n ∷ ns) o) w) ≡ option_map (λ ns. (done ++ n ∷ []) ++ ns) o
one_more w o n done h1 = grind (arith, append_assoc)

pub whole_next : (list : List Value) (i : ℕ) (d : Value) (n : ℕ) (done : List ℕ) → i < length list → d ≡ get_or list i d → Some n ≡ whole_of (view d)
    → option_map (λ ns. done ++ ns) (wholes_of (items_view (drop i list))) ≡ option_map (λ ns. (done ++ n ∷ []) ++ ns) (wholes_of (items_view (drop (i + 1) list)))
unfolding wholes_of
whole_next list i d n done h is e =
    at_drop_more (λ vs. option_map (λ ns. done ++ ns) (wholes_of (items_view vs))) list i d h
    ∙ one_more _ _ n done (e ∙ ap (λ v. whole_of (view v)) is)

pub wholes_end : (list : List Value) (i : ℕ) (done : List ℕ) → length list ≤ i → option_map (λ ns. done ++ ns) (wholes_of (items_view (drop i list))) ≡ Some done
unfolding wholes_of
wholes_end list i done h =
    at_drop_all (λ vs. option_map (λ ns. done ++ ns) (wholes_of (items_view vs))) list i h ∙ ap Some (append-nil done)
