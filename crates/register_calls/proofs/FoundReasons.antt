-- What contradicts a read that ends now, by what a witness keeps.
use Rattle.std.proofs.Common.{◌≡◌, inl, ℕ, ◌+◌, ◌-◌, ◌≤◌, Bool, Option, Some, None, List, [], ◌∷◌, length, drop, refl, ap, sym, subst, ◌∙◌, arith, get_or, get_or-drop}
use Rattle.std.specs.Prelude.{slice_get}
use Rattle.register_calls.proofs.Common.{slice_index_or, option_map, slice_get_within, slice_get-get_or, Register, RegisterEvent, WriteBegins, WriteEnds, ReadBegins, ReadEnds, Class, Safe, Regular}
use Rattle.register_calls.proofs.Common.{AtomicByReader, Atomic, OpenRead, ReaderState, FoundWrites, Chain, EarlierRead, IsValue, IsWellFormed, started, finished, written_values, before_read, Scope}
use Rattle.register_calls.proofs.Common.{Together, EachAlone, IsOf, HasOrder, HasClass, HasNone, IsLeast, IsFirstPlace, KeepsOrder, KeepsScope, lows, own_floors, own_lows, reader_at, ShowsReads, chain_at}
use Rattle.register_calls.specs.declared.reasons.MissReason.TheVariants.{Held, NotWritten, Inverted}
use Rattle.register_calls.specs.Reasons.{IsHeldFrom, IsInverted, IsMissReason}
use Rattle.register_calls.specs.Witnesses.{last_end, low_chain}
use Rattle.register_calls.proofs.ReadLemmas.{finished-before_read, length-written}
use Rattle.register_calls.proofs.OrderLemmas.{NoneIsLater-more, changed, Orders-more}
use Rattle.register_calls.proofs.Endings.{finished-started}
use Rattle.register_calls.proofs.Hearing.{FirstWrites}
use Rattle.register_calls.proofs.Bounds.{ShownLow}
use Rattle.register_calls.proofs.Remembering.{EachBounds, AllBounds}

-- what was found from when the read began, or from later on, is a write that the read may be of
found_is_of : (first l : ℕ) (h : List RegisterEvent) (i v n : ℕ) → finished (before_read i h) ≤ l → IsLeast (written_values first h) l v n → IsOf first (before_read i h) h v n
found_is_of first l h i v n began least = grind (arith, length-written, slice_get_within)

module _ (s : Scope) (first i v l m : ℕ) (h : List RegisterEvent) (floor : ℕ → ℕ) (low : ℕ → Option ℕ) (mine : low i ≡ Some l) (began : finished (before_read i h) ≤ l) where
  -- the read is of this write, in an order that continues
  order_more : (n : ℕ) → IsLeast (written_values first h) l v n → KeepsOrder s first h floor low → HasOrder s first (ReadEnds i v ∷ h)
  order_more n least k = (
    changed k.of (length h) n,
    Orders-more s first k.of h i v n k.orders (found_is_of first l h i v n began least) (NoneIsLater-more s k.of i l n (before_read i h) least.0 (k.reached_before i l mine)),
  )

  -- no order continues: the read is of no write from its low on, but of one before
  inverted_by :
      (held : Bool) (found : Option ℕ) (chain : Chain) → IsFirstPlace (written_values first h) l v found → IsLeast (written_values first h) (finished (before_read i h)) v m →
      KeepsScope held s first h floor low → HasOrder s first h → (HasOrder s first (ReadEnds i v ∷ h) → ⊥) → ShownLow s first i l (before_read i h) chain →
      (reads : List EarlierRead) × ShowsReads chain reads × IsInverted s first reads h i v
  inverted_by held found chain at any keeps has lacks shown = grind (arith, order_more)

module _ (r : Register) (h : List RegisterEvent) (i v base : ℕ) (found : FoundWrites) (firsts : FirstWrites r.first h i v base found) where
  none_since : found.of_any ≡ None → HasNone (written_values r.first h) (finished (before_read i h)) v
  none_since none =
      subst (λ (n : ℕ). HasNone (written_values r.first h) n v) firsts.began
      (subst (λ (o : Option ℕ). IsFirstPlace (written_values r.first h) found.read.before v o) none firsts.any)

  -- none of the writes that the read may be of wrote the value
  pub not_written_there :
      (c : Class) (begun : ℕ) → found.of_any ≡ None → begun ≡ started h → (found.read.before ≡ begun → ⊥) → IsValue r v → HasClass c r h → (HasClass c r (ReadEnds i v ∷ h) → ⊥) →
      IsMissReason c r h i v NotWritten
  not_written_there c begun h1 h2 h3 h4 h5 h6 = grind arith

  module _ (m : ℕ) (some : found.of_any ≡ Some m) where
    first_any : IsLeast (written_values r.first h) (finished (before_read i h)) v m
    first_any = grind arith

    is_of : IsOf r.first (before_read i h) h v m
    is_of = found_is_of r.first (finished (before_read i h)) h i v m (omega arith) first_any

    is_of_last : finished (before_read i h) ≡ started h → IsOf r.first (before_read i h) h v (started h)
    is_of_last quiet = grind (arith, is_of)

    -- the writes of the value that the read may be of come before that of an earlier read
    pub inverted_there :
        (c : Class) (xs : List ReaderState) (ts os ls : List Chain) (floor : ℕ) (by chain : Chain) (each all : Bool) → (reader_at xs i).reading ≡ Some found.read → IsValue r v →
        chain ≡ low_chain c (chain_at ts i) (chain_at ls i) → KeepsScope each EachAlone r.first h (own_floors xs) (own_lows xs) → KeepsScope all Together r.first h (λ j. floor) (lows xs) →
        EachBounds r.first h xs os ls → AllBounds r.first h xs ts floor by → HasClass c r h → (HasClass c r (ReadEnds i v ∷ h) → ⊥) →
        (reads : List EarlierRead) × ShowsReads chain reads × IsMissReason c r h i v (Inverted reads)
    inverted_there Safe xs ts os ls floor by chain each all reading value is keeps_each keeps_all of_each of_all has lacks = absurd (lacks (has, value, is_of_last))
    inverted_there Regular xs ts os ls floor by chain each all reading value is keeps_each keeps_all of_each of_all has lacks = absurd (lacks (has, (m, is_of)))
    inverted_there AtomicByReader xs ts os ls floor by chain each all reading value is keeps_each keeps_all of_each of_all has lacks =
        let l = found.read.own_low in
        let mine : own_lows xs i ≡ Some l = ap (λ (o : Option OpenRead). option_map (λ (z : OpenRead). z.own_low) o) reading in
        inverted_by EachAlone r.first i v l m h (own_floors xs) (own_lows xs) mine (let p = firsts.began in let q = firsts.own_low in omega (arith, p, q)) each found.of_own chain
        firsts.own first_any keeps_each has lacks (subst (λ (z : Chain). ShownLow EachAlone r.first i l (before_read i h) z) (sym is) (of_each.lows i l mine))
    inverted_there Atomic xs ts os ls floor by chain each all reading value is keeps_each keeps_all of_each of_all has lacks =
        let l = found.read.low in
        let mine : lows xs i ≡ Some l = ap (λ (o : Option OpenRead). option_map (λ (z : OpenRead). z.low) o) reading in
        inverted_by Together r.first i v l m h (λ j. floor) (lows xs) mine (let p = firsts.began in let q = firsts.low in omega (arith, p, q)) all found.of_all chain
        firsts.all first_any keeps_all has lacks (subst (λ (z : Chain). ShownLow Together r.first i l (before_read i h) z) (sym is) (of_all.lows i l mine))

-- the last write that ended is the one that the register holds
held_more : (e : RegisterEvent) (b : List RegisterEvent) (since : Option ℕ) → started (e ∷ b) ≡ started b → IsHeldFrom b since → IsHeldFrom (e ∷ b) since
held_more e b since h1 h2 = grind arith

held_from : (r : Register) (h : List RegisterEvent) → IsWellFormed r h → finished h ≡ started h → IsHeldFrom h (last_end h)
held_from r [] formed quiet = refl
held_from r (WriteBegins v ∷ b) formed quiet = let few = finished-started r b formed.0 in absurd (omega (arith, few, quiet))
held_from r (WriteEnds ∷ b) formed quiet = (b, inl refl, refl, quiet)
held_from r (ReadBegins i ∷ b) formed quiet = held_more (ReadBegins i) b (last_end b) refl (held_from r b formed.0 quiet)
held_from r (ReadEnds i v ∷ b) formed quiet = held_more (ReadEnds i v) b (last_end b) refl (held_from r b formed.0 quiet)

-- no write overlapped the read, and the register held another value
pub held_there :
    (c : Class) (r : Register) (h : List RegisterEvent) (i v base begun value : ℕ) (found : FoundWrites) (kept : List ℕ) (since : Option ℕ) → FirstWrites r.first h i v base found → found.of_any ≡ None →
    found.read.before ≡ begun → begun ≡ started h → IsWellFormed r h → kept ≡ drop base (written_values r.first h) → value ≡ slice_index_or kept (begun - base) 0 → since ≡ last_end h →
    IsMissReason c r h i v (Held value since)
held_there c r h i v base begun value found kept since firsts none last count formed values is ended =
    let written = written_values r.first h in
    let quiet : finished (before_read i h) ≡ started h = sym firsts.began ∙ last ∙ count in
    let low : base ≤ begun = let p = firsts.kept in omega (arith, p, last) in
    let long = length-written r.first h in
    let number : base + (begun - base) ≡ started h = omega (arith, low, count) in
    let same : value ≡ get_or written (started h) 0 =
    is ∙ ap (λ (xs : List ℕ). get_or xs (begun - base) 0) values ∙ get_or-drop base written (begun - base) 0 ∙ ap (λ (n : ℕ). get_or written n 0) number in
    let there : slice_get written (started h) ≡ Some value = slice_get-get_or written (started h) 0 (omega (arith, long)) ∙ ap Some (sym same) in
    let all : finished h ≡ started h = let p = finished-before_read i h in let q = finished-started r h formed in omega (arith, p, q, quiet) in (
      quiet,
      there,
      λ other. none_since r h i v base found firsts none (started h) (omega (arith, quiet)) (there ∙ ap Some other),
      subst (λ (o : Option ℕ). IsHeldFrom h o) (sym ended) (held_from r h formed all),
    )
