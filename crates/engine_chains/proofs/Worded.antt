-- The walk in words: one step of it is one step of the walk on places.
use Prim.Native.Nat.{ℕ, ◌^◌, ◌<◌}
use mathlib.Core.Bool.{Bool, true, false, not, false≢true}
use mathlib.Core.Path.{◌≡◌, refl, ap, sym, ◌∙◌}
use mathlib.Core.List.{List}
use native.Mathlib.Omega.{arith}
use lib.Bits.{bit_and, bit_or, and_le_r}
use lib.Dec.{eqb}
use lib.ListN.{length, set}
use borrow.Author.Tests.{eq-eqb, ne_eqb, eqb-true}
use Rattle.octets.specs.Bytes.{pick, ◌and◌, ◌or◌}
use Rattle.rules.specs.Refusals.{named}
use Rattle.rules.proofs.Bits.{named-same, named-zero, named-one, named-and, named-or, one-fits, named-without}
use Rattle.engine_chains.specs.Internal.Words.{without, meet, word_if, opening_carries, side_opens, opening_meets, side_over, met_over, on_left, on_right, sides_if, followed_on, messages_over, places_in}
use Rattle.engine_chains.specs.declared.words.Event.{Event}
use Rattle.engine_chains.specs.declared.words.Event.TheVariants.{Nothing, Cleared, Sent, Taken, Opens, Reads, Writes, Finishes, Renewed, Annihilated, ClearedRenewed, ClearedAnnihilated}
use Rattle.engine_chains.specs.declared.words.Side.{Side}
use Rattle.engine_chains.specs.Chain as chain
use Rattle.engine_chains.specs.Chain.{Places, back, or_else, met_of}
use Rattle.engine_chains.specs.Internal.Walk.{is_met, meets}
use mathlib.Core.Option.{Option, none, some}
use Rattle.marks.specs.Incarnation.{Incarnation, initial_incarnation}
use Rattle.octets.specs.Table.{updated}
use Rattle.octets.proofs.Tables.{updated-is}
use Rattle.octets.proofs.Tests.{or-none, and-true, and-false}
use lib.Seq.{get_or-set_same, get_or-set_other}
use Rattle.engine_chains.proofs.Meets.{met-either}

-- ---- bits

-- a word meets that of take c exactly if it names c
pub meet_one : (a c : ℕ) → c < 16 → meet a (2 ^ c) ≡ named a c
meet_one a c h = go (named a c) refl
  where
    bits : (u : ℕ) → named (bit_and a (2 ^ c)) u ≡ named a u and eqb c u
    bits u = named-and a (2 ^ c) u ∙ ap (λ q. named a u and q) (named-one c u)

    go : (p : Bool) → named a c ≡ p → meet a (2 ^ c) ≡ p
    go true e = ap not (ne_eqb (bit_and a (2 ^ c)) 0 (λ z. false≢true (sym (named-zero c) ∙ ap (λ w. named w c) (sym z) ∙ bits c ∙ rw (e, eq-eqb c c refl))))
    go false e = ap not (eq-eqb (bit_and a (2 ^ c)) 0 (named-same 16 (bit_and a (2 ^ c)) 0 (omega (arith, and_le_r a (2 ^ c), one-fits c 16 h)) (omega arith)
        (λ u k. bits u ∙ none u (eqb c u) refl ∙ sym (named-zero u))))
      where
        none : (u : ℕ) (q : Bool) → eqb c u ≡ q → named a u and q ≡ false
        none u true i = rw (← eqb-true c u i, e)
        none u false i = and-false (named a u)

-- ---- a word changed at one take

abbrev Names : ℕ → (ℕ → Bool) → Type 0
Names w G = (u : ℕ) → named w u ≡ G u

-- take t joins, if c
joined : (x w t : ℕ) (c : Bool) → Names w (λ u. c and eqb t u) → Names (bit_or x w) (updated (named x) t (named x t or c))
joined x w t c h = updated-is (named x) t (named x t or c) (named (bit_or x w))
    (named-or x w t ∙ ap (λ q. named x t or q) (h t ∙ rw (eq-eqb t t refl) (and-true c)))
    (λ u d. named-or x w u ∙ ap (λ q. named x u or q) (h u ∙ rw (ne_eqb t u d) (and-false c)) ∙ or-none (named x u))

-- take t leaves
left_out : (x t : ℕ) → Names (without x (2 ^ t)) (updated (named x) t false)
left_out x t = updated-is (named x) t false (named (without x (2 ^ t)))
    (named-without x (2 ^ t) t ∙ rw (named-one t t, eq-eqb t t refl) (and-false (named x t)))
    (λ u d. named-without x (2 ^ t) u ∙ rw (named-one t u, ne_eqb t u d) (and-true (named x u)))

-- the takes G leave
all-out : (x v : ℕ) (G : ℕ → Bool) → Names v G → Names (without x v) (λ u. pick (G u) false (named x u))
all-out x v G h u = named-without x v u ∙ rw (h u) (go (named x u) (G u))
  where
    go : (p q : Bool) → p and not q ≡ pick q false p
    go true true = refl
    go true false = refl
    go false true = refl
    go false false = refl

-- the word of t, if c
one-if : (c : Bool) (t : ℕ) → Names (pick c (2 ^ t) 0) (λ u. c and eqb t u)
one-if true t u = named-one t u
one-if false t u = named-zero u

-- of a word, take t alone
only_one : (x t : ℕ) → Names (bit_and x (2 ^ t)) (λ u. named x t and eqb t u)
only_one x t u = named-and x (2 ^ t) u ∙ rw (named-one t u) (go (eqb t u) refl)
  where
    go : (q : Bool) → eqb t u ≡ q → named x u and q ≡ named x t and q
    go true e = rw (eqb-true t u e)
    go false e = and-false (named x u) ∙ sym (and-false (named x t))

-- ---- a parcel followed or not

told-list : (side : ℕ → Bool) (l : List ℕ) (n v : ℕ) → n < length l → (k : ℕ) → followed_on side (set l n v) k ≡ updated (followed_on side l) n (side v) k
told-list side l n v h = updated-is (followed_on side l) n (side v) (followed_on side (set l n v)) (ap side (get_or-set_same l n v 0 h)) (λ k d. ap side (get_or-set_other l n k v 0 (λ e. d (sym e))))

pub same-places : (Q R : Places) → ((t : ℕ) → Q.state t ≡ R.state t) → ((t : ℕ) → Q.creation t ≡ R.creation t) → ((t : ℕ) → Q.behaviour t ≡ R.behaviour t) → ((n : ℕ) → Q.message n ≡ R.message n) → Q ≡ R
same-places Q R a b c d = λ i. record { state = λ t. a t i; creation = λ t. b t i; behaviour = λ t. c t i; message = λ n. d n i }

-- ---- the events that the code's stand for

-- k: the number of parcels
pub data Says (k : ℕ) : Event → chain.Event → Type 0 where
  says_nothing : Says k Nothing chain.nothing
  says-cleared : {n : ℕ} → n < k → Says k (Cleared n) (chain.cleared n)
  says-sent : {n t : ℕ} {a : Incarnation} → n < k → Says k (Sent n (2 ^ t)) (chain.sent n t a)
  says-taken : {n t : ℕ} → n < k → t < 16 → Says k (Taken n (2 ^ t)) (chain.taken n t)
  says-opens : {t c : ℕ} {a : Incarnation} → t < 16 → c < 16 → Says k (Opens (2 ^ t) (2 ^ c)) (chain.opens t c a)
  says-reads : {t : ℕ} → Says k (Reads (2 ^ t)) (chain.reads t)
  says_writes : {t : ℕ} → Says k (Writes (2 ^ t)) (chain.writes t)
  says-finishes : {t : ℕ} → Says k (Finishes (2 ^ t)) (chain.finishes t)
  says-renewed : {v : ℕ} {G : ℕ → Bool} {L : ℕ → Incarnation} → Names v G → Says k (Renewed v) (chain.renewed G L)
  says-annihilated : {t : ℕ} → Says k (Annihilated (2 ^ t)) (chain.annihilated t)
  says-cleared-renewed : {n v : ℕ} {G : ℕ → Bool} {L : ℕ → Incarnation} → n < k → Names v G → Says k (ClearedRenewed n v) (chain.successive (chain.cleared n) (chain.renewed G L))
  says-cleared-annihilated : {n t : ℕ} → n < k → Says k (ClearedAnnihilated n (2 ^ t)) (chain.successive (chain.cleared n) (chain.annihilated t))

met-if : (c : Bool) (a : Incarnation) (x : Option Incarnation) → is_met (pick c (some a) x) ≡ c or is_met x
met-if true a x = refl
met-if false a x = refl

and-turn : (p q : Bool) → p and q ≡ q and p
and-turn true true = refl
and-turn true false = refl
and-turn false true = refl
and-turn false false = refl

-- the opener, or the child: as the words have it, and as the chain does
both_ways : (p k s c : Bool) (a : Incarnation) → p or ((k and c) or (s and c)) ≡ is_met (pick p (some a) (pick ((s or k) and c) (some initial_incarnation) none))
both_ways true k s c a = refl
both_ways false true true true a = refl
both_ways false true true false a = refl
both_ways false true false true a = refl
both_ways false true false false a = refl
both_ways false false true true a = refl
both_ways false false true false a = refl
both_ways false false false true a = refl
both_ways false false false false a = refl

-- ---- one side's parcels

abbrev messages_back : Event → Side → (ℕ → Bool) → ℕ → Bool
messages_back Nothing s m = m
messages_back (Cleared n) s m = updated m n false
messages_back (Sent n t) s m = updated m n false
messages_back (Taken n t) s m = updated m n (meet s.behaviour t)
messages_back (Opens t c) s m = m
messages_back (Reads t) s m = m
messages_back (Writes t) s m = m
messages_back (Finishes t) s m = m
messages_back (Renewed v) s m = m
messages_back (Annihilated t) s m = m
messages_back (ClearedRenewed n v) s m = updated m n false
messages_back (ClearedAnnihilated n t) s m = updated m n false

-- one of the two sides: s of a and b
module _ (side : ℕ → Bool) (none-followed : side 0 ≡ false) (a b s : Side) (number : (t : ℕ) → side (sides_if (meet a.behaviour t) (meet b.behaviour t)) ≡ meet s.behaviour t) (l : List ℕ) where
  cleared-list : (n : ℕ) → n < length l → (j : ℕ) → followed_on side (set l n 0) j ≡ updated (followed_on side l) n false j
  cleared-list n h j = told-list side l n 0 h j ∙ ap (λ c. updated (followed_on side l) n c j) none-followed

  side-list : {e : Event} {f : chain.Event} → Says (length l) e f → (j : ℕ) → followed_on side (messages_over e a b l) j ≡ messages_back e s (followed_on side l) j
  unfolding messages_over
  side-list says_nothing j = refl
  side-list (says-cleared {n} h) j = cleared-list n h j
  side-list (says-sent {n} h) j = cleared-list n h j
  side-list (says-taken {n} {t} h k) j = told-list side l n (sides_if (meet a.behaviour (2 ^ t)) (meet b.behaviour (2 ^ t))) h j ∙ ap (λ c. updated (followed_on side l) n c j) (number (2 ^ t))
  side-list (says-opens h k) j = refl
  side-list says-reads j = refl
  side-list says_writes j = refl
  side-list says-finishes j = refl
  side-list (says-renewed h) j = refl
  side-list says-annihilated j = refl
  side-list (says-cleared-renewed {n} h k) j = cleared-list n h j
  side-list (says-cleared-annihilated {n} h) j = cleared-list n h j

-- ---- one side's places

module _ (s : Side) (m : ℕ → Bool) where
  abbrev Q : Places
  Q = places_in s m

  abbrev Same : Event → chain.Event → Type 0
  Same e f = places_in (side_over e s m) (messages_back e s m) ≡ back f Q

  side-back : {k : ℕ} {e : Event} {f : chain.Event} → Says k e f → Same e f
  unfolding side_over back side_opens
  side-back says_nothing = refl
  side-back (says-cleared h) = refl
  side-back (says-sent {n} {t} {a} h) = same-places (places_in (side_over (Sent n (2 ^ t)) s m) (updated m n false)) (back (chain.sent n t a) Q) (λ u. refl)
      (joined s.creation (word_if (m n) (2 ^ t)) t (m n) (one-if (m n) t)) (joined s.behaviour (word_if (m n) (2 ^ t)) t (m n) (one-if (m n) t)) (λ j. refl)
  side-back (says-taken {n} {t} h k) = same-places (places_in (side_over (Taken n (2 ^ t)) s m) (updated m n (meet s.behaviour (2 ^ t)))) (back (chain.taken n t) Q) (λ u. refl) (λ u. refl) (left_out s.behaviour t)
      (λ j. ap (λ c. updated m n c j) (meet_one s.behaviour t k))
  side-back (says-opens {t} {c} {a} h k) = same-places (places_in (side_over (Opens (2 ^ t) (2 ^ c)) s m) m) (back (chain.opens t c a) Q) (left_out s.state c) (carried s.creation) (carried s.behaviour) (λ n. refl)
    where
      carried : (x u : ℕ) → named (bit_or (without x (2 ^ c)) (opening_carries s (2 ^ t) (2 ^ c))) u ≡ updated (updated (named x) c false) t (updated (named x) c false t or named s.creation c) u
      carried x u =
          joined (without x (2 ^ c)) (opening_carries s (2 ^ t) (2 ^ c)) t (named s.creation c) (λ v. one-if (meet s.creation (2 ^ c)) t v ∙ ap (λ q. q and eqb t v) (meet_one s.creation c k)) u
          ∙ ap (λ (f : ℕ → Bool). updated f t (f t or named s.creation c) u) (λ i v. left_out x c v i)
  side-back (says-reads {t}) = same-places (places_in (side_over (Reads (2 ^ t)) s m) m) (back (chain.reads t) Q) (joined s.state (bit_and s.behaviour (2 ^ t)) t (named s.behaviour t) (only_one s.behaviour t)) (λ u. refl) (λ u. refl) (λ n. refl)
  side-back (says_writes {t}) = same-places (places_in (side_over (Writes (2 ^ t)) s m) m) (back (chain.writes t) Q) (λ u. refl) (λ u. refl) (joined s.behaviour (bit_and s.state (2 ^ t)) t (named s.state t) (only_one s.state t)) (λ n. refl)
  side-back (says-finishes {t}) = same-places (places_in (side_over (Finishes (2 ^ t)) s m) m) (back (chain.finishes t) Q) (λ u. refl) (λ u. refl) (left_out s.behaviour t) (λ n. refl)
  side-back (says-renewed {v} {G} {L} h) = same-places (places_in (side_over (Renewed v) s m) m) (back (chain.renewed G L) Q) (all-out s.state v G h) (all-out s.creation v G h) (all-out s.behaviour v G h) (λ n. refl)
  side-back (says-annihilated {t}) = same-places (places_in (side_over (Annihilated (2 ^ t)) s m) m) (back (chain.annihilated t) Q) (left_out s.state t) (left_out s.creation t) (left_out s.behaviour t) (λ n. refl)
  side-back (says-cleared-renewed {n} {v} {G} {L} h k) =
      same-places (places_in (side_over (ClearedRenewed n v) s m) (updated m n false)) (back (chain.successive (chain.cleared n) (chain.renewed G L)) Q) (all-out s.state v G k) (all-out s.creation v G k) (all-out s.behaviour v G k) (λ j. refl)
  side-back (says-cleared-annihilated {n} {t} h) =
      same-places (places_in (side_over (ClearedAnnihilated n (2 ^ t)) s m) (updated m n false)) (back (chain.successive (chain.cleared n) (chain.annihilated t)) Q) (left_out s.state t) (left_out s.creation t) (left_out s.behaviour t) (λ j. refl)

  -- ---- whom it meets

  pub side-met : {k : ℕ} {e : Event} {f : chain.Event} → Says k e f → (u : ℕ) → named (met_over e s m) u ≡ meets f Q u
  unfolding met_over back meets met_of opening_meets or_else
  side-met says_nothing u = named-zero u
  side-met (says-cleared h) u = named-zero u
  side-met (says-sent {n} {t} {a} h) u = one-if (m n) t u ∙ sym (met-if (m n and eqb t u) a none ∙ or-none (m n and eqb t u))
  side-met (says-taken h k) u = named-zero u
  side-met (says-opens {t} {c} {a} h k) u =
      let kept : ℕ = without s.behaviour (2 ^ c) in
      let A : ℕ = opening_carries s (2 ^ t) (2 ^ c) in
      let B : ℕ = word_if (meet kept (2 ^ t)) (2 ^ c) in
      let C : ℕ = bit_and s.state (2 ^ c) in
      named-or A (bit_or B C) u ∙ ap (λ q. named A u or q) (named-or B C u)
      ∙ rw (one-if (meet s.creation (2 ^ c)) t u, meet_one s.creation c k, one-if (meet kept (2 ^ t)) c u, meet_one kept t h, only_one s.state c u, left_out s.behaviour c t)
      (both_ways (named s.creation c and eqb t u) (updated (named s.behaviour) c false t) (named s.state c) (eqb c u) a)
  side-met says-reads u = named-zero u
  side-met says_writes u = named-zero u
  side-met says-finishes u = named-zero u
  side-met (says-renewed {v} {G} {L} h) u = named-and s.state v u ∙ rw (h u) (and-turn (named s.state u) (G u)) ∙ sym (met-if (G u and named s.state u) (L u) none ∙ or-none (G u and named s.state u))
  side-met says-annihilated u = named-zero u
  side-met (says-cleared-renewed {n} {v} {G} {L} h k) u =
      named-and s.state v u ∙ rw (k u) (and-turn (named s.state u) (G u))
      ∙ sym (met-either (pick (G u and named s.state u) (some (L u)) none) none ∙ or-none (is_met (pick (G u and named s.state u) (some (L u)) none)) ∙ met-if (G u and named s.state u) (L u) none ∙ or-none (G u and named s.state u))
  side-met (says-cleared-annihilated h) u = named-zero u

-- ---- the places of each side, with its parcels

left-number : (p q : Bool) → on_left (sides_if p q) ≡ p
left-number true true = refl
left-number true false = refl
left-number false true = refl
left-number false false = refl

right-number : (p q : Bool) → on_right (sides_if p q) ≡ q
right-number true true = refl
right-number true false = refl
right-number false true = refl
right-number false false = refl

module _ (a b : Side) (l : List ℕ) where
  pub left_back : {e : Event} {f : chain.Event} → Says (length l) e f → places_in (side_over e a (followed_on on_left l)) (followed_on on_left (messages_over e a b l)) ≡ back f (places_in a (followed_on on_left l))
  left_back {e} h =
      ap (λ (m : ℕ → Bool). places_in (side_over e a (followed_on on_left l)) m) (λ i j. side-list on_left refl a b a (λ t. left-number (meet a.behaviour t) (meet b.behaviour t)) l h j i)
      ∙ side-back a (followed_on on_left l) h

  pub right-back : {e : Event} {f : chain.Event} → Says (length l) e f → places_in (side_over e b (followed_on on_right l)) (followed_on on_right (messages_over e a b l)) ≡ back f (places_in b (followed_on on_right l))
  right-back {e} h =
      ap (λ (m : ℕ → Bool). places_in (side_over e b (followed_on on_right l)) m) (λ i j. side-list on_right refl a b b (λ t. right-number (meet a.behaviour t) (meet b.behaviour t)) l h j i)
      ∙ side-back b (followed_on on_right l) h
