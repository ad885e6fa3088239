-- What a witness keeps of a history, after one more event: by the lists of readers and of their chains.
use Rattle.std.proofs.Common.{◌≡◌, inl, inr, ℕ, Bool, true, false, Option, Some, None, List, [], ◌∷◌, length, drop, refl, ap, sym, subst, ◌∙◌, arith}
use Rattle.register_calls.proofs.Common.{option_map, eqb_tells, Register, RegisterEvent, ReadBegins, ReadEnds, OpenRead, ReaderState, FoundWrites, Chain, EarlierRead, finished, written_values}
use Rattle.register_calls.proofs.Common.{before_read, Scope, Together, EachAlone, sees, IsFirstPlace, IsGreater, IsRaised, IsRaisingLink, KeepsBounds, begin_places, link_of}
use Rattle.register_calls.specs.Audits.{StartsRead, EndsRead, KeepsHistory, KeepsRead, KeepsScope, lows, own_floors, own_lows, reader_at}
use Rattle.register_calls.specs.Chains.{IsLinkedChain, KeepsChain, RaisesChain, ShowsReads, chain_at, fresh_chain}
use Rattle.register_calls.proofs.Hearing.{FirstWrites}
use Rattle.register_calls.proofs.Readers.{lows_others, own_lows_others}
use Rattle.register_calls.proofs.Bounds.{IsRaisedChain, leaning_chain, begins_kept, bounds_begin, bounds_end, bounds_next, bounds_same}

-- a floor that is raised, by the read that raises it
pub raised_by :
    (chain leaning next : Chain) (floor : ℕ) (found : Option ℕ) (link : ℕ → EarlierRead) (raising : Option EarlierRead) → IsRaisingLink floor found link raising →
    IsLinkedChain chain leaning raising next → IsRaisedChain chain leaning floor found link next
raised_by chain leaning next floor found link raising h1 h2 = grind arith

-- the bounds by the reads of each reader, and by those of all
abbrev pub EachBounds : (first : ℕ) → List RegisterEvent → List ReaderState → (own own_low : List Chain) → Type 0
EachBounds first h xs os ls = KeepsBounds EachAlone first h (own_floors xs) (λ i. chain_at os i) (own_lows xs) (λ i. chain_at ls i)

abbrev pub AllBounds : (first : ℕ) → List RegisterEvent → List ReaderState → (low : List Chain) → (floor : ℕ) → Chain → Type 0
AllBounds first h xs ts floor chain = KeepsBounds Together first h (λ i. floor) (λ i. chain) (lows xs) (λ i. chain_at ts i)

module _ (r x : Register) (h : List RegisterEvent) (xs ys : List ReaderState) (registers : x ≡ r) where
  module _ (states : (j : ℕ) → reader_at ys j ≡ reader_at xs j) where
    -- the same, in lists that may be longer
    pub each_same :
        (os ps ls ms : List Chain) → ((j : ℕ) → chain_at ps j ≡ chain_at os j) → ((j : ℕ) → chain_at ms j ≡ chain_at ls j) → EachBounds r.first h xs os ls → EachBounds x.first h ys ps ms
    each_same os ps ls ms owns low_chains k = grind (arith, bounds_same)

    pub all_same :
        (ts us : List Chain) (floor top : ℕ) (chain : Chain) → ((j : ℕ) → chain_at us j ≡ chain_at ts j) → top ≡ floor → AllBounds r.first h xs ts floor chain → AllBounds x.first h ys us top chain
    all_same ts us floor top chain low_chains same k = grind (arith, bounds_same)

    -- a write begins or ends
    pub each_next : (os ls : List Chain) (e : RegisterEvent) → ((j : ℕ) → before_read j (e ∷ h) ≡ before_read j h) → EachBounds r.first h xs os ls → EachBounds x.first (e ∷ h) ys os ls
    each_next os ls e same k = grind (arith, bounds_next, each_same)

    pub all_next :
        (ts : List Chain) (e : RegisterEvent) (floor top : ℕ) (chain : Chain) → ((j : ℕ) → before_read j (e ∷ h) ≡ before_read j h) → top ≡ floor → AllBounds r.first h xs ts floor chain →
        AllBounds x.first (e ∷ h) ys ts top chain
    all_next ts e floor top chain same number k = grind (arith, all_same, bounds_next)

  -- a read begins
  module _ (i ended floor : ℕ) (chain : Chain) (is : ended ≡ finished h) (begun : StartsRead ended floor xs ys i) where
    pub each_begins :
        (os ls ms : List Chain) (count own : ℕ) → count ≡ ended → own ≡ (reader_at xs i).own → KeepsChain ls ms i count own (chain_at os i) → EachBounds r.first h xs os ls →
        EachBounds x.first (ReadBegins i ∷ h) ys os ms
    each_begins os ls ms count own counted mine moved k =
        subst (λ (z : Register). EachBounds z.first (ReadBegins i ∷ h) ys os ms) (sym registers)
        (bounds_begin EachAlone r.first i begun.read.own_low h (own_floors xs) (own_floors ys) (λ j. chain_at os j) (λ j. chain_at os j) (own_lows xs) (own_lows ys)
        (λ j. chain_at ls j) (λ j. chain_at ms j) floors (λ j. refl)
        (ap (λ (z : ReaderState). option_map (λ (o : OpenRead). o.own_low) z.reading) begun.moves.here)
        (own_lows_others xs ys i (record { own = (reader_at xs i).own; reading = Some begun.read }) begun.moves)
        (λ lt. moved.here (omega (arith, lt, counted, is, mine))) moved.others
        (subst (λ (n : ℕ). IsGreater n (reader_at xs i).own begun.read.own_low) is begun.own_low) k)
      where
        floors : (j : ℕ) → own_floors ys j ≡ own_floors xs j
        floors j = elim (eqb_tells j i) [
          | inl same ↦ subst (λ (z : ℕ). own_floors ys z ≡ own_floors xs z) (sym same.1) (ap (λ (z : ReaderState). z.own) begun.moves.here)
          | inr apart ↦ ap (λ (z : ReaderState). z.own) (begun.moves.others j apart.1)
        ]

    pub all_begins :
        (ts us : List Chain) (count top : ℕ) → count ≡ ended → top ≡ floor → KeepsChain ts us i count top chain → AllBounds r.first h xs ts floor chain →
        AllBounds x.first (ReadBegins i ∷ h) ys us top chain
    all_begins ts us count top counted same moved k =
        subst (λ (z : Register). AllBounds z.first (ReadBegins i ∷ h) ys us top chain) (sym registers)
        (bounds_begin Together r.first i begun.read.low h (λ j. floor) (λ j. top) (λ j. chain) (λ j. chain) (lows xs) (lows ys)
        (λ j. chain_at ts j) (λ j. chain_at us j) (λ j. same) (λ j. refl)
        (ap (λ (z : ReaderState). option_map (λ (o : OpenRead). o.low) z.reading) begun.moves.here)
        (lows_others xs ys i (record { own = (reader_at xs i).own; reading = Some begun.read }) begun.moves)
        (λ lt. moved.here (omega (arith, lt, counted, is, same))) moved.others
        (subst (λ (n : ℕ). IsGreater n floor begun.read.low) is begun.low) k)

  -- a read ends
  module _ (i v floor top : ℕ) (found : FoundWrites) (places : List ℕ) (base count : ℕ) (reading : (reader_at xs i).reading ≡ Some found.read)
      (firsts : FirstWrites r.first h i v base found) (ends : EndsRead found xs ys i floor top) (counted : count ≡ length h) (kept : places ≡ drop base (begin_places h)) where
    any_first : IsFirstPlace (written_values r.first h) (finished (before_read i h)) v found.of_any
    any_first = subst (λ (n : ℕ). IsFirstPlace (written_values r.first h) n v found.of_any) firsts.began firsts.any

    pub each_ends :
        (os ps ls : List Chain) (leaning : Chain) (link : Option EarlierRead) → leaning ≡ leaning_chain found.of_any found.read.own_low (chain_at ls i) → RaisesChain os ps i leaning link →
        IsRaisingLink (reader_at xs i).own found.of_own (link_of places base count i v) link → EachBounds r.first h xs os ls → EachBounds x.first (ReadEnds i v ∷ h) ys ps ls
    each_ends os ps ls leaning link is moved raising k =
        subst (λ (z : Register). EachBounds z.first (ReadEnds i v ∷ h) ys ps ls) (sym registers)
        (bounds_end EachAlone r.first i v found.read.own_low h (own_floors xs) (own_floors ys) (λ j. chain_at os j) (λ j. chain_at ps j) (own_lows xs) (own_lows ys)
        (λ j. chain_at ls j) (λ j. chain_at ls j) found.of_any found.of_own leaning places base count
        (ap (λ (o : Option OpenRead). option_map (λ (z : OpenRead). z.own_low) o) reading)
        (ap (λ (z : ReaderState). option_map (λ (o : OpenRead). o.own_low) z.reading) ends.moves.here)
        (own_lows_others xs ys i (record { own = ends.own; reading = None }) ends.moves)
        (λ j apart. refl) unseen raised any_first firsts.own is counted
        (λ n le some few. begins_kept h places base n kept (let p = firsts.kept in let q = firsts.own_low in omega (arith, p, q, le)) some few) k)
      where
        unseen : (j : ℕ) → sees EachAlone j i ≡ false → (own_floors ys j ≡ own_floors xs j) × (chain_at ps j ≡ chain_at os j)
        unseen j never = elim (eqb_tells j i) [
          | inl same ↦ (let wrong : true ≡ false = sym same.0 ∙ never in absurd cc)
          | inr apart ↦ (ap (λ (z : ReaderState). z.own) (ends.moves.others j apart.1), moved.others j apart.1)
        ]

        number : IsRaised (own_floors xs i) found.of_own (own_floors ys i)
        number = subst (λ (z : ReaderState). IsRaised (own_floors xs i) found.of_own z.own) (sym ends.moves.here) ends.own_raised

        chain : IsRaisedChain (chain_at os i) leaning (own_floors xs i) found.of_own (link_of places base count i v) (chain_at ps i)
        chain = raised_by (chain_at os i) leaning (chain_at ps i) (own_floors xs i) found.of_own (link_of places base count i v) link raising moved.here

        raised :
            (j : ℕ) → sees EachAlone j i ≡ true →
            IsRaised (own_floors xs j) found.of_own (own_floors ys j) × IsRaisedChain (chain_at os j) leaning (own_floors xs j) found.of_own (link_of places base count i v) (chain_at ps j)
        raised j always = elim (eqb_tells j i) [
          | inl same ↦
              subst (λ (z : ℕ). IsRaised (own_floors xs z) found.of_own (own_floors ys z) × IsRaisedChain (chain_at os z) leaning (own_floors xs z) found.of_own (link_of places base count i v) (chain_at ps z))
              (sym same.1) (number, chain)
          | inr apart ↦ (let wrong : false ≡ true = sym apart.0 ∙ always in absurd cc)
        ]

    pub all_ends :
        (ts : List Chain) (leaning chain next : Chain) (link : Option EarlierRead) → leaning ≡ leaning_chain found.of_any found.read.low (chain_at ts i) → IsLinkedChain chain leaning link next →
        IsRaisingLink floor found.of_all (link_of places base count i v) link → AllBounds r.first h xs ts floor chain → AllBounds x.first (ReadEnds i v ∷ h) ys ts top next
    all_ends ts leaning chain next link is linked raising k =
        subst (λ (z : Register). AllBounds z.first (ReadEnds i v ∷ h) ys ts top next) (sym registers)
        (bounds_end Together r.first i v found.read.low h (λ j. floor) (λ j. top) (λ j. chain) (λ j. next) (lows xs) (lows ys)
        (λ j. chain_at ts j) (λ j. chain_at ts j) found.of_any found.of_all leaning places base count
        (ap (λ (o : Option OpenRead). option_map (λ (z : OpenRead). z.low) o) reading)
        (ap (λ (z : ReaderState). option_map (λ (o : OpenRead). o.low) z.reading) ends.moves.here)
        (lows_others xs ys i (record { own = ends.own; reading = None }) ends.moves)
        (λ j apart. refl) (λ j never. absurd cc)
        (λ j always. (ends.raised, raised_by chain leaning next floor found.of_all (link_of places base count i v) link raising linked)) any_first firsts.all is counted
        (λ n le some few. begins_kept h places base n kept (let p = firsts.kept in let q = firsts.low in omega (arith, p, q, le)) some few) k)

-- before any event
zero_floor : (s : Scope) (first : ℕ) (held : Bool) (floor : ℕ → ℕ) (low : ℕ → Option ℕ) → KeepsScope held s first [] floor low → (i : ℕ) → floor i ≡ 0
zero_floor s first true floor low keeps i = let p = keeps.least i (λ k. 0) 0 tt tt in omega (arith, p)
zero_floor s first false floor low keeps i = absurd (keeps ((λ k. 0), tt))

not_reading : {X : Type 0} (i : ℕ) (o : Option OpenRead) (f : OpenRead → ℕ) (n : ℕ) → KeepsRead i [] o → option_map f o ≡ Some n → X
not_reading i o f n h1 h2 = grind arith

fresh_at : (i : ℕ) → chain_at [] i ≡ fresh_chain
fresh_at i = grind arith

module _ (r : Register) (kept : List ℕ) (base begun : ℕ) (writing : Bool) (xs : List ReaderState) (floor : ℕ) (safe regular each all : Bool) (k : KeepsHistory r [] kept base begun writing xs floor safe regular each all) where
  pub each_none : (os ls : List Chain) → os ≡ [] → EachBounds r.first [] xs os ls
  each_none os ls none = record {
    floors = (λ i. ([], shown_at i, zero_floor EachAlone r.first each (own_floors xs) (own_lows xs) k.order_of_each i));
    lows = (λ i n at. not_reading i (reader_at xs i).reading (λ (z : OpenRead). z.own_low) n (k.reads i) at);
  }
    where
      shown_at : (i : ℕ) → ShowsReads (chain_at os i) []
      shown_at i = subst (λ (z : List Chain). ShowsReads (chain_at z i) []) (sym none) (subst (λ (z : Chain). ShowsReads z []) (sym (fresh_at i)) (record { shown = refl; cut = refl }))

  pub all_none : (ts : List Chain) (chain : Chain) → ShowsReads chain [] → AllBounds r.first [] xs ts floor chain
  all_none ts chain shows = record {
    floors = (λ i. ([], shows, zero_floor Together r.first all (λ j. floor) (lows xs) k.order_of_all i));
    lows = (λ i n at. not_reading i (reader_at xs i).reading (λ (z : OpenRead). z.low) n (k.reads i) at);
  }
