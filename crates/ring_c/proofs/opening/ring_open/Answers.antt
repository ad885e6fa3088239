use Rattle.std.proofs.Common.{Some, refl, sym, ap, ◌∙◌, inl, inr}
use Rattle.bits_core.proofs.OwnOpen.{not_open}
use Rattle.ring_c.proofs.opening.ring_open.Goals as goal

pub returns : goal.returns
returns c = inl (
  refl,
  not_open _ (sym c.is_open.ensures.is ∙ c.if-is_open.false),
  not_open _ (sym c.is_open-else-is_open.ensures.is ∙ c.if-is_open-2.false),
  record {
    shape = c.in-Ok.shape;
    shape_is = c.in-Ok.ensures;
    p = c.in-Ok-hold.p;
    c = c.in-Ok-hold.c;
    putter_is = c.keep.ensures ∙ ap Some c.in-Ok-Ok.ensures.ok;
    taker_is = c.keep-2.ensures ∙ ap Some c.in-Ok-Ok.ensures'.ok;
    fresh = c.in-Ok-hold.ensures;
  },
)

pub returns-in_default : goal.returns-in_default
returns-in_default c = inr (
  inr (
    not_open _ (sym c.is_open.ensures.is ∙ c.if-is_open.false),
    not_open _ (sym c.is_open-else-is_open.ensures.is ∙ c.if-is_open-2.false),
    inr (c.in-Ok.shape, c.in-Ok.ensures, refl),
  ),
  ap (λ r. r.slot.value) c.is_open.ensures.same,
  ap (λ r. r.slot.value) c.is_open-else-is_open.ensures.same,
)

pub returns-in_default-2 : goal.returns-in_default-2
returns-in_default-2 c = inr (
  inr (
    not_open _ (sym c.is_open.ensures.is ∙ c.if-is_open.false),
    not_open _ (sym c.is_open-else-is_open.ensures.is ∙ c.if-is_open-2.false),
    inr (c.in-Ok.shape, c.in-Ok.ensures, refl),
  ),
  ap (λ r. r.slot.value) c.is_open.ensures.same,
  ap (λ r. r.slot.value) c.is_open-else-is_open.ensures.same,
)
