-- The tests of the code one by one, as specs/Internal/Footprint has them.
use Prim.Native.Nat.{ℕ, ◌+◌, ◌*◌, ◌≤◌, ◌<◌}
use mathlib.Core.Bool.{Bool, true, false, not}
use mathlib.Core.Path.{◌≡◌, refl, sym, ap, ◌∙◌}
use mathlib.Core.List.{List}
use mathlib.Core.Logic.{⊎_elim}
use native.Mathlib.Omega.{arith}
use lib.Dec.{eqb, leb}
use lib.ListN.{length, take}
use borrow.Author.Tests.{le-leb, lt-leb, leb-true, leb-false, ne_eqb, eq-eqb, eqb-true}
use Rattle.std.specs.Prelude.{Option, Some, None}
use Rattle.octets.specs.Bytes.{pick, ◌and◌, ◌or◌, put, part, any}
use Rattle.octets.proofs.Put.{put_whole}
use Rattle.octets.proofs.Tests.{and-true}
use Rattle.marks.specs.declared.History.{History}
use Rattle.marks.specs.Incarnation.{Incarnation, same_list, same_incarnation}
use Rattle.marks.specs.Packed.{present_in}
use Rattle.maps.specs.Map.{held_at}
use Rattle.rules.specs.Layout.{base, image_bytes, history_bytes, state_at, creation_at, transactor_address}
use Rattle.rules.specs.State.{State, transactor_at, message_at, own_history, place_of}
use Rattle.rules.specs.declared.Step.{Step}
use Rattle.rules.specs.declared.Reply.{Reply}
use Rattle.rules.specs.Step.{receive, send, sign, done, not_ready, is_refusal}
use Rattle.rules.specs.Refusals.{named, acts, sends, malformed}
use Rattle.rules.specs.Rules.{Result, answer, apply_sign, checkpoint_group, group_ready, refusal, step_of}
use Rattle.rules.specs.Pack.{waiting_in, pack, unpack}
use Rattle.rules.specs.Internal.Well.{StepOk, WellFormed}
use Rattle.rules.specs.Internal.Good.{Good}
use Rattle.steps.specs.Internal.Stepped.{Stepped, Counted}
use Rattle.rules.specs.Independent.{opens, has_mark}
use Rattle.rules.proofs.Good.{good-pack}
use Rattle.rules.proofs.Pack.RoundTrip.{unpack-pack}
use Rattle.rules.proofs.Keep.Step.{fitting-base, applied-same, keeps}
use Rattle.rules.proofs.ByKind.Applied.{applies}
use Rattle.rules.proofs.ByKind.Outcomes.{Judged, judged, apply-outcome}
use Rattle.rules.proofs.Independent.Steps.{decided}
use Rattle.rules.proofs.Pack.Loads.{held-at, read-state, read-creation, unpack-waiting}
use Rattle.independence.specs.Internal.Footprint.{receiver_of, is_take, touches, touches_in, leaves, leaves_by, transactors_meet, addresses, handled, parcels_meet, heads_meet, relisted, has_marks, lists_meet, meets}

-- ---- takes

module _ (img : List ℕ) (number w k : ℕ) (e : w ≡ waiting_in base img) (f : k ≡ place_of (unpack base img) number) where
  pub receiver-none : w ≤ k → None ≡ receiver_of (unpack base img) number
  unfolding receiver_of
  receiver-none h = rw (le-leb (length (unpack base img).messages) (place_of (unpack base img) number) (omega (arith, unpack-waiting base img)))

  pub receiver-some : k < w → (a : ℕ) → a ≡ (message_at (unpack base img) k).addressee → Some a ≡ receiver_of (unpack base img) number
  unfolding receiver_of
  receiver-some h a g =
      ap Some (g ∙ ap (λ (i : ℕ). (message_at (unpack base img) i).addressee) f)
      ∙ rw (lt-leb (length (unpack base img).messages) (place_of (unpack base img) number) (omega (arith, unpack-waiting base img)))

module _ (o : ℕ) (r : Option ℕ) (t : ℕ) (p : Step) where
  pub touch-sign : p.kind ≡ sign → named p.message t ≡ touches o r p t
  unfolding touches
  touch-sign e = rw (eq-eqb p.kind sign e)

  module _ (ns : p.kind ≡ sign → ⊥) where
    pub touch-receive : p.kind ≡ receive → is_take r t ≡ touches o r p t
    unfolding touches
    touch-receive e = rw (ne_eqb p.kind sign ns, eq-eqb p.kind receive e)

    module _ (nr : p.kind ≡ receive → ⊥) where
      pub touch-else : touches o r p t ≡ (opens p.kind and eqb o t) or (acts p.kind and eqb p.transactor t)
      unfolding touches
      touch-else = rw (ne_eqb p.kind sign ns, ne_eqb p.kind receive nr)

-- both, where the numbers are those of the state
pub touch-turn : (s : State) (p q : Step) (o : ℕ) (a b : Option ℕ) (t : ℕ) (r : Bool) → o ≡ s.opened → a ≡ receiver_of s p.message → b ≡ receiver_of s q.message
    → r ≡ touches o a p t and touches o b q t → r ≡ touches_in s p t and touches_in s q t
touch-turn s p q o a b t r e f g h =
    h ∙ ap (λ (n : ℕ). touches n a p t and touches n b q t) e
    ∙ ap (λ (n : Option ℕ). touches s.opened n p t and touches s.opened b q t) f
    ∙ ap (λ (n : Option ℕ). touches_in s p t and touches s.opened n q t) g

-- ---- parcels

module _ (next : ℕ) (p : Step) where
  pub handled-sent : sends p.kind ≡ true → next ≡ handled next p
  unfolding handled
  handled-sent e = sym (ap (λ (c : Bool). pick c next p.message) e)

  pub handled-other : sends p.kind ≡ false → p.message ≡ handled next p
  unfolding handled
  handled-other e = sym (ap (λ (c : Bool). pick c next p.message) e)

module _ (img : List ℕ) (p q : Step) (r : Bool) where
  pub heads-parcels : opens p.kind ≡ false → (n m w : ℕ) → n ≡ (unpack base img).next → m ≡ (unpack base img).limits.messages → w ≡ waiting_in base img
      → r ≡ parcels_meet n (leb m w) p q → r ≡ heads_meet (unpack base img) p q
  unfolding heads_meet
  heads-parcels k n m w a b c f =
      f ∙ ap (λ (i : ℕ). parcels_meet i (leb m w) p q) a
      ∙ ap (λ (i : ℕ). parcels_meet (unpack base img).next (leb i w) p q) b
      ∙ ap (λ (i : ℕ). parcels_meet (unpack base img).next (leb (unpack base img).limits.messages i) p q) (c ∙ sym (unpack-waiting base img))
      ∙ sym (ap (λ (c : Bool). pick c (addresses q (unpack base img).opened) (parcels_meet (unpack base img).next (leb (unpack base img).limits.messages (length (unpack base img).messages)) p q)) k)

-- ---- lists

abbrev listed : History → Incarnation
listed h = record { checkpoints = take h.count h.checkpoints; number = 0 }

pub relisted-is : (s s' : State) (t : ℕ) (h k : History) → h ≡ own_history t (transactor_at s t) → k ≡ own_history t (transactor_at s' t)
    → (r : Bool) → r ≡ same_incarnation (listed h) (listed k) → not r ≡ relisted s s' t
unfolding relisted same_incarnation
relisted-is s s' t h k e f r g =
    ap not (g ∙ and-true (same_list (take h.count h.checkpoints) (take k.count k.checkpoints))
    ∙ ap (λ (x : History). same_list (take x.count x.checkpoints) (take k.count k.checkpoints)) e
    ∙ ap (λ (x : History). same_list (take (own_history t (transactor_at s t)).count (own_history t (transactor_at s t)).checkpoints) (take x.count x.checkpoints)) f)

module _ (img : List ℕ) (t u : ℕ) (below : t < base.transactors) (under : u < base.transactors) (r : Bool) where
  abbrev there : ℕ → Bool
  there at = present_in (part (transactor_address base t + at + history_bytes base * u) (history_bytes base) img)

  in-state : held_at (transactor_at (unpack base img) t).state u ≡ there state_at
  in-state = rw (read-state base img t below) (held-at base (transactor_address base t + state_at) img u under)

  in-creation : held_at (transactor_at (unpack base img) t).creation u ≡ there (creation_at base)
  in-creation = rw (read-creation base img t below) (held-at base (transactor_address base t + creation_at base) img u under)

  module _ (e : r ≡ present_in (part (transactor_address base t + state_at + history_bytes base * u) (history_bytes base) img)) where
    pub has-state : r ≡ true → true ≡ has_mark (transactor_at (unpack base img) t) u
    has-state f = sym (ap (λ (c : Bool). c or held_at (transactor_at (unpack base img) t).creation u) (in-state ∙ sym e ∙ f))

    pub has-creation : r ≡ false → (r' : Bool) → r' ≡ present_in (part (transactor_address base t + creation_at base + history_bytes base * u) (history_bytes base) img)
        → r' ≡ has_mark (transactor_at (unpack base img) t) u
    has-creation f r' g = g ∙ sym in-creation ∙ sym (ap (λ (c : Bool). c or held_at (transactor_at (unpack base img) t).creation u) (in-state ∙ sym e ∙ f))

module _ (s s' : State) (q : Step) where
  pub lists-any : q.kind ≡ sign → any 16 (λ t. relisted s s' t and has_marks s q.message t) ≡ lists_meet base s s' q
  unfolding lists_meet
  lists-any e = rw (eq-eqb q.kind sign e)

-- ---- the play on a copy

module _ (img c c' : List ℕ) (good : Good img) (long : length c ≡ image_bytes base) (e : c' ≡ put 0 img c) where
  copied : c' ≡ img
  copied = e ∙ put_whole img c (good.long ∙ sym long)

  pub copy-good : Good c'
  copy-good = rw copied good

  pub copy-counted : (n : ℕ) → n ≡ waiting_in base img → n ≤ base.messages → Counted n c'
  copy-counted n f h = record { is = f ∙ sym (ap (waiting_in base) copied); few = h }

  pub copy-played : (p : Step) (r : Reply) (c'' : List ℕ) → Stepped c' p r c''
      → (r.outcome ≡ (step_of base (unpack base img) p).reply.outcome) × (c'' ≡ pack base (step_of base (unpack base img) p).state)
  copy-played p r c'' g =
      let s : unpack base c' ≡ unpack base img = ap (unpack base) copied in
      (ap (λ (x : Reply). x.outcome) g.reply ∙ ap (λ (x : State). (step_of base x p).reply.outcome) s, g.image ∙ ap (λ (x : State). pack base (step_of base x p).state) s)

module _ (img c : List ℕ) (p : Step) (good : Good img) (ok : StepOk p) (e : c ≡ pack base (step_of base (unpack base img) p).state) where
  well : WellFormed base (step_of base (unpack base img) p).state
  well = keeps fitting-base good.well ok

  pub played-good : Good c
  played-good = rw e (good-pack (step_of base (unpack base img) p).state well)

  pub played-says : unpack base c ≡ (step_of base (unpack base img) p).state
  played-says = ap (unpack base) e ∙ unpack-pack base (step_of base (unpack base img) p).state well.packable

-- ---- all tests

module _ (s : State) (p q : Step) where
  -- a signing, by whether the volume is ready
  abbrev by-ready : Bool → Result
  by-ready c = pick c (record { reply = answer done 0 0 0; state = checkpoint_group base s p.message }) (record { reply = answer not_ready 0 0 0; state = s })

  not-ready : (b : Bool) → eqb (by-ready b).reply.outcome not_ready ≡ not b
  not-ready true = refl
  not-ready false = refl

  abbrev tests : Bool
  tests = heads_meet s p q or (not (leaves base s p) and transactors_meet base s p q) or lists_meet base s (step_of base s p).state q

  pub meets-malformed : malformed q ≡ true → false ≡ meets base s p q
  unfolding meets
  meets-malformed e = rw e

  module _ (f : malformed q ≡ false) (o : ℕ) (e : o ≡ (step_of base s p).reply.outcome) where
    pub meets-refused : is_refusal o ≡ true → false ≡ meets base s p q
    unfolding meets
    meets-refused r = go (judged base s p)
      where
        go : Judged base s p → false ≡ not (malformed q) and eqb (refusal base s p) 0 and tests
        go (Judged.refused h k) = ⊎_elim
            (λ (z : refusal base s p ≡ 0). absurd (omega (arith, h, ap (λ (x : Result). x.reply.outcome) (applied-same base s p z), apply-outcome base s p)))
            (λ (z : refusal base s p ≡ 0 → ⊥). rw (f, ne_eqb (refusal base s p) 0 z))
            (decided base s p)
        go (Judged.applied z h) = absurd (omega (arith, leb-true 20 o r, e, h))

    module _ (r : is_refusal o ≡ false) where
      applied : refusal base s p ≡ 0
      applied = go (judged base s p)
        where
          go : Judged base s p → refusal base s p ≡ 0
          go (Judged.refused h k) = absurd (omega (arith, leb-false 20 o r, e, h))
          go (Judged.applied z h) = z

      tested : meets base s p q ≡ tests
      unfolding meets
      tested = ap (λ (c : Bool). not c and eqb (refusal base s p) 0 and tests) f ∙ ap (λ (c : Bool). c and tests) (eq-eqb (refusal base s p) 0 applied)

      -- by the outcome
      leaves-is : leaves_by p o ≡ leaves base s p
      unfolding leaves_by leaves apply_sign
      leaves-is = ap (λ (c : Bool). eqb p.kind send or c) (go (eqb p.kind sign) refl)
        where
          signs : (b : Bool) → group_ready base s p.message ≡ b → p.kind ≡ sign → eqb o not_ready ≡ not b
          signs b g k =
              ap (λ (n : ℕ). eqb n not_ready)
              (e ∙ ap (λ (x : Result). x.reply.outcome) (applied-same base s p applied ∙ (applies base s p).sign k) ∙ ap (λ (c : Bool). (by-ready c).reply.outcome) g)
              ∙ not-ready b

          go : (k : Bool) → eqb p.kind sign ≡ k → k and eqb o not_ready ≡ k and not (group_ready base s p.message)
          go true k = signs (group_ready base s p.message) refl (eqb-true p.kind sign k)
          go false k = refl

      pub meets-heads : heads_meet s p q ≡ true → true ≡ meets base s p q
      meets-heads h = sym (tested ∙ ap (λ (c : Bool). c or (not (leaves base s p) and transactors_meet base s p q) or lists_meet base s (step_of base s p).state q) h)

      module _ (h : heads_meet s p q ≡ false) where
        rest : meets base s p q ≡ (not (leaves_by p o) and transactors_meet base s p q) or lists_meet base s (step_of base s p).state q
        rest =
            tested ∙ ap (λ (c : Bool). c or (not (leaves base s p) and transactors_meet base s p q) or lists_meet base s (step_of base s p).state q) h
            ∙ sym (ap (λ (c : Bool). (not c and transactors_meet base s p q) or lists_meet base s (step_of base s p).state q) leaves-is)

        pub meets-transactors : not (leaves_by p o) and transactors_meet base s p q ≡ true → true ≡ meets base s p q
        meets-transactors t = sym (rest ∙ ap (λ (c : Bool). c or lists_meet base s (step_of base s p).state q) t)

        pub meets-lists : not (leaves_by p o) and transactors_meet base s p q ≡ false → (x : State) → x ≡ (step_of base s p).state → (b : Bool) → b ≡ lists_meet base s x q → b ≡ meets base s p q
        meets-lists t x i b g = g ∙ ap (λ (y : State). lists_meet base s y q) i ∙ sym (rest ∙ ap (λ (c : Bool). c or lists_meet base s (step_of base s p).state q) t)
