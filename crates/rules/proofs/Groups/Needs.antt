-- What the takes need of a volume: found entry by entry, and when a volume is ready by it.
use Prim.Native.Nat.{ℕ, ◌+◌, ◌*◌, ◌^◌, ◌≤◌, ◌<◌, max}
use mathlib.Core.Bool.{Bool, true, false, not}
use mathlib.Core.Path.{◌≡◌, refl, sym, ap, ◌∙◌, subst}
use mathlib.Core.List.{List}
use mathlib.Core.Logic.{⊎_elim}
use native.Mathlib.Omega.{arith}
use borrow.Author.Tests.{not-true, not-false, leb-false, lt-leb, eqb-false}
use lib.ListN.{length, get_or, set, length-set}
use lib.Seq.{get_or-set_same, get_or-set_other}
use Rattle.octets.specs.Bytes.{pick, ◌and◌, ◌or◌, part, every}
use Rattle.octets.proofs.Chunks.{sides}
use Rattle.octets.proofs.Tests.{never, or-none, and-false, implied, implying, same_test}
use Rattle.octets.proofs.Zero.{both, every-all, every-at, every-off, Held, held_none, held_more, held_all}
use Rattle.marks.specs.declared.History.{History}
use Rattle.marks.specs.Incarnation.{checkpointed_in, same_incarnation}
use Rattle.marks.specs.History.{incarnation_of}
use Rattle.marks.specs.Packed.{unpack_history, present_in}
use Rattle.marks.proofs.Tests as tests
use Rattle.rules.specs.Layout.{Layout, history_bytes, state_at, creation_at, transactor_address}
use Rattle.rules.specs.Status.{annihilated}
use Rattle.rules.specs.State.{Transactor, State, live, transactor_at, own_history}
use Rattle.rules.specs.Refusals.{named, group_bits}
use Rattle.rules.specs.Rules.{entry_ready, transactor_ready, group_ready}
use Rattle.rules.specs.Pack.{unpack}
use Rattle.rules.specs.ReadyGroups.{ready_group, Ready}
use Rattle.rules.specs.Internal.Well.{WellFormed}
use Rattle.rules.specs.Internal.Guards.{is_full}
use Rattle.rules.specs.Internal.Closure.{stored_ready, pair_ready, Names, Kept, in_group_at, checkpointed_at, asked_at, pair_asks, needs_of, able, Row, Needed, inside, meets, Closed}
use Rattle.rules.proofs.Bits.{named-zero, names-none, names-on, names-off}
use Rattle.rules.proofs.Groups.Ready.{stable-alive, alive-there, transactor-is, kept-in-group, kept-other}
use Rattle.rules.proofs.Groups.Signable.{ready-exactly}
use Rattle.rules.proofs.Groups.Closure.{inside-at, inside-all}

-- ---- one mark, in a volume that does not name its take, and in one that does

-- what is asked, by whether it is ready in either
abbrev number : Bool → Bool → ℕ
number without with = pick without 0 (pick with 1 2)

module _ (y : Layout) (img : List ℕ) (at u : ℕ) where
  abbrev x : Transactor
  x = transactor_at (unpack y img) u

  abbrev h : History
  h = unpack_history y.width y.places (part at (history_bytes y) img)

  stored-wider : (g : ℕ) → stored_ready y img 0 at u ≡ true → stored_ready y img g at u ≡ true
  unfolding stored_ready entry_ready
  stored-wider g = rw (named-zero u) (go (present_in (part at (history_bytes y) img)) (live x) (checkpointed_in (incarnation_of h) (incarnation_of (own_history u x))) (named g u)
      (same_incarnation (incarnation_of h) (incarnation_of (own_history u x))))
    where
      go : (p l c n e : Bool) → not p or (l and (c or (false and e))) ≡ true → not p or (l and (c or (n and e))) ≡ true
      go false l c n e f = refl
      go true true true n e f = refl
      go true true false n e f = never (sym f)
      go true false c n e f = never (sym f)

  module _ (there : not (present_in (part at (history_bytes y) img)) ≡ false) where
    -- without it only a signed life passes
    stored-bare : stored_ready y img 0 at u ≡ checkpointed_at y img at u
    unfolding stored_ready entry_ready checkpointed_at
    stored-bare = rw (there, named-zero u, or-none)

    in-group-unsigned : (g : ℕ) → in_group_at y img g at u ≡ true → checkpointed_at y img at u ≡ false
    unfolding in_group_at checkpointed_at
    in-group-unsigned g e =
        let a : named g u and same_incarnation (incarnation_of h) (incarnation_of (own_history u x)) ≡ true = rw there at e in
        rw (tests.present-unsigned (incarnation_of h) (incarnation_of (own_history u x)) (both (named g u) (same_incarnation (incarnation_of h) (incarnation_of (own_history u x))) a).1) (and-false (live x))

    module _ {g : ℕ} {o : History} (kept : Kept (unpack y img) g u o) where
      pub asked-in-group : in_group_at y img g at u ≡ true → 1 ≡ asked_at y img g at u
      unfolding asked_at
      asked-in-group e = sym (rw (stored-bare, in-group-unsigned g e, kept-in-group y img g at u kept e))

      pub asked-other : in_group_at y img g at u ≡ false → checkpointed_at y img at u ≡ false → 2 ≡ asked_at y img g at u
      unfolding asked_at
      asked-other e f = sym (rw (stored-bare, f, sym (kept-other y img g at u kept e) ∙ f))

    pub asked-checkpointed : (g : ℕ) → checkpointed_at y img at u ≡ true → 0 ≡ asked_at y img g at u
    unfolding asked_at
    asked-checkpointed g f = sym (rw (stored-bare, f))

  pub asked-absent : (g : ℕ) → not (present_in (part at (history_bytes y) img)) ≡ true → 0 ≡ asked_at y img g at u
  unfolding asked_at stored_ready
  asked-absent g e = rw e

-- ---- the entries u of take t

module _ (y : Layout) (img : List ℕ) (g t u : ℕ) where
  abbrev state : ℕ
  state = transactor_address y t + state_at + history_bytes y * u

  abbrev creation : ℕ
  creation = transactor_address y t + creation_at y + history_bytes y * u

  pair-wider : pair_ready y img 0 t u ≡ true → pair_ready y img g t u ≡ true
  unfolding pair_ready
  pair-wider e =
      let a = both (stored_ready y img 0 state u) (stored_ready y img 0 creation u) e in
      rw (stored-wider y img state u g a.0, stored-wider y img creation u g a.1)

  -- both ask for the more of the two
  greater : (a b c d : Bool) → (a ≡ true → b ≡ true) → (c ≡ true → d ≡ true) → max (number a b) (number c d) ≡ number (a and c) (b and d)
  greater true true true true f k = refl
  greater true true false true f k = refl
  greater true true false false f k = refl
  greater false true true true f k = refl
  greater false true false true f k = refl
  greater false true false false f k = refl
  greater false false true true f k = refl
  greater false false false true f k = refl
  greater false false false false f k = refl
  greater true false c d f k = never (sym (f refl))
  greater a b true false f k = never (sym (k refl))

  module _ (a b : ℕ) (first : a ≡ asked_at y img g (transactor_address y t + state_at + history_bytes y * u) u) (second : b ≡ asked_at y img g (transactor_address y t + creation_at y + history_bytes y * u) u) where
    pub pair-more : (m : ℕ) → m ≡ max a b → m ≡ pair_asks y img g t u
    unfolding asked_at pair_asks pair_ready
    pair-more m e = rw (e, first, second) (greater (stored_ready y img 0 state u) (stored_ready y img g state u) (stored_ready y img 0 creation u) (stored_ready y img g creation u)
        (stored-wider y img state u g) (stored-wider y img creation u g))

-- ---- the entries of take t, one after the other

-- after u turns: the first u ask for no more than g, and need names what they ask for
pub record Rowed (y : Layout) (img : List ℕ) (g t u need : ℕ) : Type 0 where
  pub pairs : Held (pair_ready y img g t) y.transactors u
  pub needed : Names (needs_of y img t) u need

pub rowed-none : (y : Layout) (img : List ℕ) (g t : ℕ) → Rowed y img g t 0 0
rowed-none y img g t = record { pairs = held_none (pair_ready y img g t) y.transactors; needed = names-none (needs_of y img t) }

module _ {y : Layout} {img : List ℕ} {g t u need : ℕ} (rowed : Rowed y img g t u need) (below : u < y.transactors) where
  pub rowed-off : 2 ≡ pair_asks y img g t u → every y.transactors (pair_ready y img g t) ≡ false
  unfolding pair_asks
  rowed-off e = go (pair_ready y img 0 t u) (pair_ready y img g t u) refl e
    where
      go : (p q : Bool) → pair_ready y img g t u ≡ q → ◌≡◌ {A = ℕ} 2 (number p q) → every y.transactors (pair_ready y img g t) ≡ false
      go true q f k = absurd (omega arith)
      go false true f k = absurd (omega arith)
      go false false f k = every-off (pair_ready y img g t) y.transactors u below f

  -- they ask for nothing
  pub rowed-past : 0 ≡ pair_asks y img g t u → Rowed y img g t (u + 1) need
  unfolding pair_asks needs_of
  rowed-past e = go (pair_ready y img 0 t u) refl (pair_ready y img g t u) e
    where
      go : (p : Bool) → pair_ready y img 0 t u ≡ p → (q : Bool) → ◌≡◌ {A = ℕ} 0 (number p q) → Rowed y img g t (u + 1) need
      go true f q k = record { pairs = held_more rowed.pairs below (ap not (pair-wider y img g t u f)); needed = names-off rowed.needed (ap not f) }
      go false f true k = absurd (omega arith)
      go false f false k = absurd (omega arith)

  -- they ask for u
  pub rowed-more : 1 ≡ pair_asks y img g t u → (b : ℕ) → b ≡ 2 ^ u → Rowed y img g t (u + 1) (need + b)
  unfolding pair_asks needs_of
  rowed-more e b bit = go (pair_ready y img 0 t u) refl (pair_ready y img g t u) refl e
    where
      go : (p : Bool) → pair_ready y img 0 t u ≡ p → (q : Bool) → pair_ready y img g t u ≡ q → ◌≡◌ {A = ℕ} 1 (number p q) → Rowed y img g t (u + 1) (need + b)
      go true f q i k = absurd (omega arith)
      go false f true i k = record { pairs = held_more rowed.pairs below (ap not i); needed = names-on rowed.needed b bit (ap not f) }
      go false f false i k = absurd (omega arith)

-- whether take t can be in a ready volume: one test after the other
module _ (y : Layout) (img : List ℕ) (g t : ℕ) where
  pub able-unnamed : named g t ≡ false → able y img g t ≡ false
  unfolding able
  able-unnamed e = rw e

  pub able-full : is_full (unpack y img) t ≡ true → able y img g t ≡ false
  unfolding able
  able-full e = go (named g t) (is_full (unpack y img) t) e
    where
      go : (n f : Bool) → f ≡ true → n and not f and every y.transactors (pair_ready y img g t) ≡ false
      go true true e = refl
      go true false e = never (sym e)
      go false f e = refl

  pub able-off : every y.transactors (pair_ready y img g t) ≡ false → able y img g t ≡ false
  unfolding able
  able-off e = rw e (go (named g t) (not (is_full (unpack y img) t)))
    where
      go : (n f : Bool) → n and f and false ≡ false
      go true true = refl
      go true false = refl
      go false f = refl

  pub row-met : named g t ≡ true → is_full (unpack y img) t ≡ false → {need : ℕ} → Rowed y img g t y.transactors need → Row y img g t need
  unfolding able
  row-met name room {need} r = record { is = rw (name, room) (sym (held_all r.pairs (omega arith))); needed = r.needed }

-- ---- the takes, one after the other

-- after t turns; the other places hold 0
pub record Gathered (y : Layout) (img : List ℕ) (g t : ℕ) (l : List ℕ) (v : ℕ) : Type 0 where
  pub long : length l ≡ y.transactors
  pub members : Names (able y img g) t v
  pub needed : (u : ℕ) → u < t → able y img g u ≡ true → Names (needs_of y img u) y.transactors (get_or l u 0)
  pub unneeded : (u : ℕ) → (u < t → able y img g u ≡ false) → get_or l u 0 ≡ 0

pub gathered_none : (y : Layout) (img : List ℕ) (g : ℕ) (l : List ℕ) → length l ≡ y.transactors → ((u : ℕ) → get_or l u 0 ≡ 0) → Gathered y img g 0 l 0
gathered_none y img g l e z = record { long = e; members = names-none (able y img g); needed = λ u h. absurd (omega arith); unneeded = λ u h. z u }

pub gathered-all : {y : Layout} {img : List ℕ} {g : ℕ} {l : List ℕ} {v : ℕ} → Gathered y img g y.transactors l v
    → Names (λ t. (own_history t (transactor_at (unpack y img) t)).stable) y.transactors g → Needed y img l v
gathered-all {y} {img} {g} k stable = record { g = g; stable = stable; members = k.members; needed = k.needed; unneeded = λ u b e. k.unneeded u (λ h. e) }

module _ {y : Layout} {img : List ℕ} {g t : ℕ} {l : List ℕ} {v : ℕ} (gathered : Gathered y img g t l v) where
  pub gathered-off : able y img g t ≡ false → Gathered y img g (t + 1) l v
  gathered-off e = record {
    long = gathered.long;
    members = names-off gathered.members e;
    needed = λ u h a. ⊎_elim
        (λ (q : u < t). gathered.needed u q a)
        (λ (q : t ≤ u). let f : t ≡ u = omega arith in never (sym a ∙ subst (λ (x : ℕ). able y img g x ≡ false) f e))
        (sides u t);
    unneeded = λ u h. gathered.unneeded u (λ q. h (omega arith));
  }

  module _ (below : t < y.transactors) {need : ℕ} (row : Row y img g t need) where
    kept : (u : ℕ) → u < t + 1 → able y img g u ≡ true → Names (needs_of y img u) y.transactors (get_or (set l t need) u 0)
    kept u h e = ⊎_elim
        (λ (q : u < t). subst (Names (needs_of y img u) y.transactors) (sym (get_or-set_other l t u need 0 (λ z. omega arith))) (gathered.needed u q e))
        (λ (q : t ≤ u).
        let f : t ≡ u = omega arith in
        subst (λ (x : ℕ). Names (needs_of y img x) y.transactors (get_or (set l t need) x 0)) f
        (subst (Names (needs_of y img t) y.transactors) (sym (get_or-set_same l t need 0 (omega (arith, gathered.long)))) row.needed))
        (sides u t)

    kept-none : (u : ℕ) → (u < t + 1 → able y img g u ≡ false) → get_or (set l t need) u 0 ≡ 0
    kept-none u h = get_or-set_other l t u need 0 differs ∙ gathered.unneeded u (λ q. h (omega arith))
      where
        differs : u ≡ t → ⊥
        differs e = never (sym (subst (λ (x : ℕ). able y img g x ≡ true) (sym e) row.is) ∙ h (omega arith))

    pub gathered-able : (b : ℕ) → b ≡ 2 ^ t → Gathered y img g (t + 1) (set l t need) (v + b)
    gathered-able b bit = record { long = length-set l t need ∙ gathered.long; members = names-on gathered.members b bit row.is; needed = kept; unneeded = kept-none }

-- ---- which volumes are ready

module _ (y : Layout) (img : List ℕ) where
  abbrev s : State
  s = unpack y img

  -- what a named take is in a ready volume
  record Rests (w t : ℕ) : Type 0 where
    frozen : (own_history t (transactor_at s t)).stable ≡ true
    pairs : (u : ℕ) → u < y.transactors → pair_ready y img w t u ≡ true

  rests : (w t : ℕ) → group_ready y s w ≡ true → t < y.transactors → named w t ≡ true → Rests w t
  unfolding group_ready
  rests w t ready h n =
      let a : transactor_ready y s w t ≡ true = implied (named w t) (transactor_ready y s w t) (every-at (λ t. not (named w t) or transactor_ready y s w t) y.transactors t ready h) n in
      let b = both (own_history t (transactor_at s t)).stable _ (sym (transactor-is y img w t h) ∙ a) in
      record { frozen = b.0; pairs = λ u below. every-at (pair_ready y img w t) y.transactors u b.1 below }

  rested : (w : ℕ) → ((t : ℕ) → t < y.transactors → named w t ≡ true → Rests w t) → group_ready y s w ≡ true
  unfolding group_ready
  rested w f = every-all (λ t. not (named w t) or transactor_ready y s w t) y.transactors (λ t h. implying (named w t) (transactor_ready y s w t) (λ n.
      let r = f t h n in
      transactor-is y img w t h ∙ rw (r.frozen, every-all (pair_ready y img w t) y.transactors r.pairs)))

  -- a volume decides on the entries u by whether it names u
  module _ (v w t u : ℕ) (e : named v u ≡ named w u) where
    stored-named : (at : ℕ) → stored_ready y img v at u ≡ stored_ready y img w at u
    unfolding stored_ready entry_ready
    stored-named at = rw e

    pair-named : pair_ready y img v t u ≡ pair_ready y img w t u
    unfolding pair_ready
    pair-named = rw (stored-named (transactor_address y t + state_at + history_bytes y * u), stored-named (transactor_address y t + creation_at y + history_bytes y * u))

  module _ (well : WellFormed y s) (size : y.transactors ≡ group_bits) {l : List ℕ} {v : ℕ} (found : Needed y img l v) where
    abbrev g : ℕ
    g = found.g

    -- a ready volume, take by take
    module _ (w : ℕ) (ready : Ready y s w) (t : ℕ) (below : t < group_bits) (name : named w t ≡ true) where
      rest : Rests w t
      rest = rests w t ready.rule (omega arith) name

      frozen : (u : ℕ) → u < group_bits → named w u ≡ true → named g u ≡ true
      frozen u h n = let b : u < y.transactors = omega arith in found.stable.exactly u b ∙ (rests w u ready.rule b n).frozen

      -- the take is able
      ready-able : able y img g t ≡ true
      unfolding able is_full
      ready-able = rw (frozen t below name, lt-leb s.limits.checkpoints (own_history t (transactor_at s t)).count (ready.room t below name))
          (every-all (pair_ready y img g t) y.transactors (λ u h. go u h (named w u) refl))
        where
          go : (u : ℕ) → u < y.transactors → (b : Bool) → named w u ≡ b → pair_ready y img g t u ≡ true
          go u h true e = pair-named g w t u (frozen u (omega arith) e ∙ sym e) ∙ rest.pairs u h
          go u h false e = pair-wider y img g t u (pair-named 0 w t u (named-zero u ∙ sym e) ∙ rest.pairs u h)

      -- and what it needs is there
      ready-needs : inside (get_or l t 0) w ≡ true
      unfolding needs_of
      ready-needs = inside-all (get_or l t 0) w (λ u h n.
          let b : u < y.transactors = omega arith in
          go u b (sym ((found.needed t (omega arith) ready-able).exactly u b) ∙ n) (named w u) refl)
        where
          go : (u : ℕ) → u < y.transactors → not (pair_ready y img 0 t u) ≡ true → (b : Bool) → named w u ≡ b → b ≡ true
          go u h n true e = refl
          go u h n false e = never (sym (pair-named 0 w t u (named-zero u ∙ sym e) ∙ rest.pairs u h) ∙ not-true (pair_ready y img 0 t u) n)

    pub ready-inside : (w : ℕ) → Ready y s w → inside w v ≡ true
    ready-inside w ready = inside-all w v (λ t h n. found.members.exactly t (omega arith) ∙ ready-able w ready t h n)

    pub ready-closed : (w : ℕ) → Ready y s w → Closed l w
    unfolding Closed
    ready-closed w ready t h n = ready-needs w ready t h n

    -- the takes that a volume names are able, and what each needs is there: it is ready
    module _ (w : ℕ) (names : w ≡ 0 → ⊥) (in-able : inside w v ≡ true) (closed : Closed l w) where
      record Member (t : ℕ) : Type 0 where
        frozen : named g t ≡ true
        room : is_full s t ≡ false
        pairs : (u : ℕ) → u < y.transactors → pair_ready y img g t u ≡ true
        needed : Names (needs_of y img t) y.transactors (get_or l t 0)

      member : (t : ℕ) → t < group_bits → named w t ≡ true → Member t
      unfolding able
      member t h n =
          let b : t < y.transactors = omega arith in
          let a : able y img g t ≡ true = sym (found.members.exactly t b) ∙ inside-at w v in-able t h n in
          let c = both (named g t) _ a in
          let d = both (not (is_full s t)) _ c.1 in
          record { frozen = c.0; room = not-true (is_full s t) d.0; pairs = λ u k. every-at (pair_ready y img g t) y.transactors u d.1 k; needed = found.needed t b a }

      pair-met : (t u : ℕ) → t < group_bits → u < group_bits → named w t ≡ true → pair_ready y img w t u ≡ true
      unfolding needs_of Closed
      pair-met t u h k n = go (named w u) refl (named (get_or l t 0) u) refl
        where
          b : u < y.transactors
          b = omega arith

          go : (p : Bool) → named w u ≡ p → (q : Bool) → named (get_or l t 0) u ≡ q → pair_ready y img w t u ≡ true
          go true e q f = pair-named w g t u (e ∙ sym (member u k e).frozen) ∙ (member t h n).pairs u b
          go false e true f = never (sym (inside-at (get_or l t 0) w (closed t h n) u k f) ∙ e)
          go false e false f = pair-named w 0 t u (e ∙ sym (named-zero u)) ∙ not-false (pair_ready y img 0 t u) (sym ((member t h n).needed.exactly u b) ∙ f)

      stable : (t : ℕ) → t < group_bits → named w t ≡ true → (own_history t (transactor_at s t)).stable ≡ true
      stable t h n = sym (found.stable.exactly t (omega arith)) ∙ (member t h n).frozen

      pub closed-ready : Ready y s w
      unfolding is_full
      closed-ready = record {
        names = names;
        opened = λ t h n. (stable-alive well t (omega arith) (stable t h n)).0;
        there = λ t h n. eqb-false (transactor_at s t).status annihilated (alive-there (stable-alive well t (omega arith) (stable t h n)).1);
        room = λ t h n. leb-false s.limits.checkpoints (own_history t (transactor_at s t)).count (member t h n).room;
        rule = rested w (λ t b n.
            let h : t < group_bits = omega arith in
            record { frozen = stable t h n; pairs = λ u k. pair-met t u h (omega arith) n });
      }

    -- "under the signing rule and the 15-signing limit", by what each take needs
    pub meets-ready : (w : ℕ) → (w ≡ 0 → ⊥) → meets l v w ≡ ready_group y s w
    unfolding meets Closed
    meets-ready w names = same_test (meets l v w) (ready_group y s w) to of
      where
        to : inside w v and every group_bits (λ t. not (named w t) or inside (get_or l t 0) w) ≡ true → ready_group y s w ≡ true
        to e =
            let a = both (inside w v) _ e in
            (ready-exactly y s w).1 (closed-ready w names a.0 (λ t h. implied (named w t) (inside (get_or l t 0) w) (every-at (λ t. not (named w t) or inside (get_or l t 0) w) group_bits t a.1 h)))

        of : ready_group y s w ≡ true → inside w v and every group_bits (λ t. not (named w t) or inside (get_or l t 0) w) ≡ true
        of e =
            let r = (ready-exactly y s w).0 e in
            rw (ready-inside w r) (every-all (λ t. not (named w t) or inside (get_or l t 0) w) group_bits (λ t h. implying (named w t) (inside (get_or l t 0) w) (ready-closed w r t h)))
