-- A plan attains what it is for: run from any well-formed state, every step is answered with 0, and the last signs the take with all that it rests on.
use Prim.Native.Nat.{ℕ, zero, suc, ◌+◌, ◌*◌, ◌-◌, ◌≤◌, ◌<◌}
use mathlib.Core.Bool.{Bool, true, false, not, false≢true}
use mathlib.Core.Path.{◌≡◌, refl, sym, ap, ◌∙◌, subst}
use mathlib.Core.List.{List, [], ◌++◌}
use mathlib.Core.Logic.{◌⊎◌, inl, inr, ⊎_elim}
use native.Mathlib.Decide.{ℕ_discrete}
use native.Mathlib.Omega.{arith}
use lib.Dec.{eqb, ltb, leb}
use lib.ListN.{length, length-append, length-set, get_or-eq_default}
use borrow.Author.Tests.{eq-eqb, ne_eqb, eqb-true, eqb-false, lt-ltb, ltb-true, le-leb, leb-true, leb-false}
use Rattle.octets.specs.Bytes.{pick, ◌and◌, ◌or◌, tabulate, chunks, Octets}
use Rattle.octets.specs.Numbers.{bound}
use Rattle.octets.proofs.Chunks.{sides, get_d_tabulate, length-tabulate}
use Rattle.octets.proofs.Tests.{pick-view, pick-zero, or-of, and-of, otherwise}
use Rattle.octets.proofs.Zero.{both}
use Rattle.marks.specs.declared.History.{History}
use Rattle.marks.specs.History.{incarnation_of, stabilized}
use Rattle.maps.specs.declared.DependenceMap.{DependenceMap}
use Rattle.maps.specs.Map.{Sized, held_at, history_at, empty_map}
use Rattle.maps.proofs.Map.{held-with_entry, history-with_entry, held-with_entry-other, history-with_entry-other}
use Rattle.rules.specs.Layout.{Layout, Limits, Fitting, last_number}
use Rattle.rules.specs.Status.{idle, busy}
use Rattle.rules.specs.State.{Transactor, Message, State, no_transactor, transactor_at, own_history, live, with_transactor, with_message, place_from}
use Rattle.rules.specs.Step.{Step, step_bytes, step_at, done, pack_step}
use Rattle.rules.specs.Refusals.{named, group_bits, malformed}
use Rattle.rules.specs.Rules.{Result, no_dependences, group_ready, checkpoint_by, checkpoint_at, checkpoint_group, apply_sign, refusal, step_of}
use Rattle.rules.specs.Calls.{state_after, steps_in}
use Rattle.rules.specs.Groups.{signing, Checkpointable}
use Rattle.rules.specs.ReadyGroups.{how_many}
use Rattle.rules.specs.Dependents.{holds_present, rests_at, through_at, group_of}
use Rattle.rules.specs.Impediment.{is_withdrawn, withdrawn_in, withdrawn_by, lost_ground, impedes_at, impediment_of}
use Rattle.rules.specs.Plan.{waking, receipt, freezing, to_freeze, to_wake, steps_for, resting_volume, letters, letters_fit, mendable, steps_to_sign, plan_of, Attains}
use Rattle.rules.specs.Internal.Guards.{room_refusal, group_in}
use Rattle.rules.specs.Internal.Well.{StepOk, Live, is-idle, is-busy, TransactorFormed, not_opened, gone, alive, TransactorOk, WellFormed}
use Rattle.rules.proofs.Keep.Run.{after-zero, at_left, at_right, after-left, after-append}
use Rattle.rules.proofs.Keep.Step.{keeps-after, refused-same, applied-same}
use Rattle.rules.proofs.Pack.Stores.{with_transactor-here, with_transactor-other}
use Rattle.rules.proofs.ByKind.Refused.{refuses}
use Rattle.rules.proofs.ByKind.Applied.{applies}
use Rattle.rules.proofs.Groups.Dependents.{in_group}
use Rattle.rules.proofs.Groups.Signable.{signing-done}
use Rattle.rules.proofs.Groups.Impediments.{Clear, clear-could, hopeless-is, exhausted-is, unstable-is, none-in-way, mendable-low, through-live}
use Rattle.rules.proofs.Pack.Steps.{length-pack_step}
use Rattle.rules.proofs.Groups.Planned.{step-one, Runs, runs_none, runs-one, runs_append, letter-done, receipt-done, freeze-done, woken, frozen_by, numbered_on}

-- ---- counting

pub how_many-up : (f : ℕ → Bool) (k n : ℕ) → k ≤ n → how_many k f ≤ how_many n f
unfolding how_many
how_many-up f k zero h = subst (λ (i : ℕ). how_many i f ≤ 0) {x = 0} {y = k} (omega arith) (omega arith)
how_many-up f k (suc n) h = ⊎_elim
    (λ (l : k ≤ n). omega (arith, how_many-up f k n l))
    (λ (l : suc n ≤ k). subst (λ (i : ℕ). how_many k f ≤ how_many i f) {x = k} {y = suc n} (omega arith) (omega arith))
    (swap (sides n k))
  where
    swap : (n < k) ⊎ (k ≤ n) → (k ≤ n) ⊎ (suc n ≤ k)
    swap (inl h) = inr h
    swap (inr h) = inl h

many-next : (f : ℕ → Bool) (k : ℕ) → how_many (suc k) f ≡ how_many k f + pick (f k) 1 0
unfolding how_many
many-next f k = refl

-- ---- what a plan has for a take

module _ (s : State) (g c : ℕ) where
  steps-none : to_freeze s g c ≡ false → steps_for s g c ≡ []
  unfolding steps_for
  steps-none e = rw e

  steps-busy : to_freeze s g c ≡ true → to_wake s g c ≡ false → steps_for s g c ≡ pack_step (freezing c)
  unfolding steps_for
  steps-busy e f = rw (e, f)

  steps-idle : to_freeze s g c ≡ true → to_wake s g c ≡ true → steps_for s g c ≡ pack_step (waking c) ++ pack_step (receipt (s.next + how_many c (to_wake s g))) ++ pack_step (freezing c)
  unfolding steps_for
  steps-idle e f = rw (e, f)

  wake-none : to_freeze s g c ≡ false → to_wake s g c ≡ false
  unfolding to_wake
  wake-none e = rw e

  wake-is : to_freeze s g c ≡ true → to_wake s g c ≡ eqb (transactor_at s c).status idle
  unfolding to_wake
  wake-is e = rw e

  freeze-named : to_freeze s g c ≡ true → named g c ≡ true
  unfolding to_freeze
  freeze-named e = (both (named g c) (not (own_history c (transactor_at s c)).stable) e).0

  frozen-already : to_freeze s g c ≡ false → named g c ≡ true → (own_history c (transactor_at s c)).stable ≡ true
  unfolding to_freeze
  frozen-already e f = go (named g c) (own_history c (transactor_at s c)).stable e f
    where
      go : (a b : Bool) → a and not b ≡ false → a ≡ true → b ≡ true
      go true true e f = refl
      go true false e f = absurd (false≢true (sym e))
      go false b e f = absurd (false≢true f)

  freeze-unnamed : named g c ≡ false → to_freeze s g c ≡ false
  unfolding to_freeze
  freeze-unnamed e = rw e

  wake-freeze : to_wake s g c ≡ true → to_freeze s g c ≡ true
  unfolding to_wake
  wake-freeze e = (both (to_freeze s g c) (eqb (transactor_at s c).status idle) e).0

  -- whole steps
  whole-steps : (m : ℕ) × (length (steps_for s g c) ≡ step_bytes * m)
  unfolding steps_for
  whole-steps = pick-view (λ (l : List ℕ). (m : ℕ) × (length l ≡ step_bytes * m)) (to_freeze s g c) _ _ (λ e.
      pick-view (λ (l : List ℕ). (m : ℕ) × (length l ≡ step_bytes * m)) (to_wake s g c) _ _
      (λ f. (3, three)) (λ f. (1, length-pack_step (freezing c)))) (λ e. (0, refl))
    where
      n : ℕ
      n = s.next + how_many c (to_wake s g)

      three : length (pack_step (waking c) ++ pack_step (receipt n) ++ pack_step (freezing c)) ≡ 24
      three = length-append (pack_step (waking c) ++ pack_step (receipt n)) (pack_step (freezing c)) ∙ omega (arith, length-append (pack_step (waking c)) (pack_step (receipt n)), length-pack_step (waking c), length-pack_step (receipt n), length-pack_step (freezing c))

whole-chunks : (s : State) (g k : ℕ) → (m : ℕ) × (length (chunks k (steps_for s g)) ≡ step_bytes * m)
unfolding chunks
whole-chunks s g zero = (0, refl)
whole-chunks s g (suc k) =
    let a = whole-chunks s g k in
    let b = whole-steps s g k in
    (a.0 + b.0, length-append (chunks k (steps_for s g)) (steps_for s g k) ∙ omega (arith, a.1, b.1))

below_last : (n : ℕ) → n < bound 2 → (n ≡ last_number → ⊥) → n < last_number
unfolding bound
below_last n h d = omega arith

-- the takes of the volume
in-volume : (y : Layout) (s : State) (t c : ℕ) → c < y.transactors → named (resting_volume y s t) c ≡ through_at s y.transactors c t
unfolding resting_volume
in-volume y s t c h = in_group y.transactors (λ c. through_at s y.transactors c t) c h

-- a take that can be woken and frozen
record Member (y : Layout) (o c : ℕ) (x : Transactor) : Type 0 where
  opened : c < o
  status : Live x.status
  own : held_at x.state c ≡ true
  behaves : x.status ≡ idle → x.behaviour ≡ empty_map y.places y.transactors
  state : Sized y.transactors x.state
  creation : Sized y.transactors x.creation

-- one take changed
record Changed (s q : State) (c : ℕ) (x : Transactor) (n : ℕ) : Type 0 where
  limits : q.limits ≡ s.limits
  opened : q.opened ≡ s.opened
  messages : q.messages ≡ s.messages
  next : q.next ≡ s.next + n
  here : transactor_at q c ≡ x
  elsewhere : (u : ℕ) → (u ≡ c → ⊥) → transactor_at q u ≡ transactor_at s u

-- ---- before the signing

module _ {y : Layout} (z : Fitting y) {s : State} (w : WellFormed y s) (t : ℕ) (low : t < y.transactors) (there : live (transactor_at s t) ≡ true)
    (mends : mendable (impediment_of y s t) ≡ true) where
  abbrev n : ℕ
  n = y.transactors

  member : (c : ℕ) → c < y.transactors → through_at s y.transactors c t ≡ true → Member y s.opened c (transactor_at s c)
  member c h e = go (w.transactors c h) (w.packable.transactors c h) (through-live w t c there h e (mendable-low y s t mends).0)
    where
      go : {x : Transactor} → TransactorFormed y s.limits.checkpoints s.opened c x → TransactorOk y x → live x ≡ true → Member y s.opened c x
      go (not_opened h) o l = absurd (false≢true l)
      go (gone h) o l = absurd (false≢true l)
      go (alive h a) o l = record {
        opened = h;
        status = a.status;
        own = a.own;
        behaves = a.behaves;
        state = record { helds = o.state.helds; histories = o.state.histories };
        creation = record { helds = o.creation.helds; histories = o.creation.histories };
      }

  -- after the first k takes
  record Prepared (k : ℕ) (q : State) : Type 0 where
    well : WellFormed y q
    limits : q.limits ≡ s.limits
    opened : q.opened ≡ s.opened
    messages : q.messages ≡ s.messages
    next : q.next ≡ s.next + how_many k (to_wake s (resting_volume y s t))
    frozen : (u : ℕ) → u < k → to_freeze s (resting_volume y s t) u ≡ true → transactor_at q u ≡ frozen_by u (transactor_at s u)
    rest : (u : ℕ) → (u < k → to_freeze s (resting_volume y s t) u ≡ false) → transactor_at q u ≡ transactor_at s u

  prepared-none : Prepared 0 s
  unfolding how_many
  prepared-none = record { well = w; limits = refl; opened = refl; messages = refl; next = omega arith; frozen = λ u h e. absurd (omega arith); rest = λ u h. refl }

  module _ (k : ℕ) (below : k < y.transactors) {q : State} (p : Prepared k q) where
    -- nothing to do
    prepared-same : to_freeze s (resting_volume y s t) k ≡ false → Prepared (suc k) q
    prepared-same e = record {
      well = p.well;
      limits = p.limits;
      opened = p.opened;
      messages = p.messages;
      next = p.next ∙ ap (λ (i : ℕ). s.next + i) (sym (many-next (to_wake s (resting_volume y s t)) k ∙ rw (wake-none s (resting_volume y s t) k e) (omega arith)));
      frozen = λ u h f. ⊎_elim (λ (l : u < k). p.frozen u l f) (λ (l : k ≤ u). absurd (false≢true (sym e ∙ subst (λ (i : ℕ). to_freeze s (resting_volume y s t) i ≡ true) {x = u} {y = k} (omega arith) f))) (sides u k);
      rest = λ u f. p.rest u (λ h. f (omega arith));
    }

    -- one more is frozen
    prepared-more : to_freeze s (resting_volume y s t) k ≡ true → (q' : State) → WellFormed y q' → Changed q q' k (frozen_by k (transactor_at s k)) (pick (to_wake s (resting_volume y s t) k) 1 0) → Prepared (suc k) q'
    prepared-more e q' v c = record {
      well = v;
      limits = c.limits ∙ p.limits;
      opened = c.opened ∙ p.opened;
      messages = c.messages ∙ p.messages;
      next = c.next ∙ omega (arith, p.next, many-next (to_wake s (resting_volume y s t)) k);
      frozen = λ u h f. ⊎_elim
          (λ (l : u < k). c.elsewhere u (omega arith) ∙ p.frozen u l f)
          (λ (l : k ≤ u). subst (λ (i : ℕ). transactor_at q' i ≡ frozen_by i (transactor_at s i)) {x = k} {y = u} (omega arith) c.here)
          (sides u k);
      rest = λ u f. other u f (ℕ_discrete u k);
    }
      where
        other : (u : ℕ) → (u < suc k → to_freeze s (resting_volume y s t) u ≡ false) → Dec (u ≡ k) → transactor_at q' u ≡ transactor_at s u
        other u f (yes i) = absurd (false≢true (sym (f (omega arith)) ∙ subst (λ (j : ℕ). to_freeze s (resting_volume y s t) j ≡ true) (sym i) e))
        other u f (no d) = c.elsewhere u d ∙ p.rest u (λ h. f (omega arith))

    -- room for one letter
    record Spare : Type 0 where
      place : length q.messages < q.limits.messages
      number : q.next < last_number

    module _ (f : to_wake s (resting_volume y s t) k ≡ true) (fits : letters_fit y s (resting_volume y s t) ≡ true) where
      one_more : how_many k (to_wake s (resting_volume y s t)) + 1 ≤ letters y s (resting_volume y s t)
      unfolding letters
      one_more =
          let one : ◌≡◌ {A = ℕ} (pick (to_wake s (resting_volume y s t) k) 1 0) 1 = rw f in
          omega (arith, many-next (to_wake s (resting_volume y s t)) k, one, how_many-up (to_wake s (resting_volume y s t)) (suc k) y.transactors below)

      room : (length s.messages < s.limits.messages) × (s.next + letters y s (resting_volume y s t) ≤ last_number)
      unfolding letters_fit
      room =
          let a = otherwise (eqb (letters y s (resting_volume y s t)) 0) (ltb (length s.messages) s.limits.messages and leb (s.next + letters y s (resting_volume y s t)) last_number) fits (ne_eqb (letters y s (resting_volume y s t)) 0 (λ (i : letters y s (resting_volume y s t) ≡ 0). omega (arith, one_more))) in
          let b = both (ltb (length s.messages) s.limits.messages) (leb (s.next + letters y s (resting_volume y s t)) last_number) a in
          (ltb-true (length s.messages) s.limits.messages b.0, leb-true (s.next + letters y s (resting_volume y s t)) last_number b.1)

      spare_of : Spare
      spare_of = record {
        place = subst (λ (l : List Message). length l < q.limits.messages) (sym p.messages) (subst (λ (i : ℕ). length s.messages < i) (ap (λ (m : Limits). m.messages) (sym p.limits)) room.0);
        number = omega (arith, p.next, room.1, one_more);
      }

    -- where take k has to be frozen
    module _ (e : to_freeze s (resting_volume y s t) k ≡ true) where
      abbrev x : Transactor
      x = transactor_at s k

      is_member : Member y s.opened k (transactor_at s k)
      is_member = member k below (sym (in-volume y s t k below) ∙ freeze-named s (resting_volume y s t) k e)

      found : transactor_at q k ≡ transactor_at s k
      found = p.rest k (λ h. absurd (omega arith))

      opened-now : k < q.opened
      opened-now = omega (arith, p.opened, is_member.opened)

      low-number : k < 16
      low-number = omega (arith, z.transactors)

      in_list : (q' : State) → WellFormed y q' → k < length q'.transactors
      in_list q' v = omega (arith, v.packable.many)

      freezing-ok : StepOk (freezing k)
      unfolding bound
      freezing-ok = record { kind = omega arith; transactor = low-number; other = omega arith; zero = omega arith; message = omega arith; value = omega arith }

      waking-ok : StepOk (waking k)
      unfolding bound
      waking-ok = record { kind = omega arith; transactor = low-number; other = omega arith; zero = omega arith; message = omega arith; value = omega arith }

      -- at work: frozen at once
      busy-status : to_wake s (resting_volume y s t) k ≡ false → (transactor_at s k).status ≡ busy
      busy-status f = go is_member.status (eqb-false (transactor_at s k).status idle (sym (wake-is s (resting_volume y s t) k e) ∙ f))
        where
          go : {i : ℕ} → Live i → (i ≡ idle → ⊥) → i ≡ busy
          go is-idle d = absurd (d refl)
          go is-busy d = refl

      changed-busy : to_wake s (resting_volume y s t) k ≡ false → Changed q (with_transactor q k (frozen_by k (transactor_at s k))) k (frozen_by k (transactor_at s k)) (pick (to_wake s (resting_volume y s t) k) 1 0)
      unfolding with_transactor
      changed-busy f = record {
        limits = refl;
        opened = refl;
        messages = refl;
        next = rw f (omega arith);
        here = with_transactor-here q k (frozen_by k (transactor_at s k)) (in_list q p.well);
        elsewhere = λ u d. with_transactor-other q k (frozen_by k (transactor_at s k)) u d;
      }

      runs-busy : to_wake s (resting_volume y s t) k ≡ false → Runs y q (steps_for s (resting_volume y s t) k) 1 (with_transactor q k (frozen_by k (transactor_at s k)))
      runs-busy f =
          let d = freeze-done y q k opened-now (transactor_at s k) found (busy-status f) in
          subst (λ (b : List ℕ). Runs y q b 1 (with_transactor q k (frozen_by k (transactor_at s k)))) (sym (steps-busy s (resting_volume y s t) k e f))
          (runs-one y q (with_transactor q k (frozen_by k (transactor_at s k))) (freezing k) freezing-ok (ap (λ (r : Result). r.reply.outcome) d) (ap (λ (r : Result). r.state) d))

      -- idle: a letter first
      module _ (f : to_wake s (resting_volume y s t) k ≡ true) (spare : Spare) where
        idle-status : (transactor_at s k).status ≡ idle
        idle-status = eqb-true (transactor_at s k).status idle (sym (wake-is s (resting_volume y s t) k e) ∙ f)

        abbrev posted : State
        posted = with_message q k 0 (no_dependences y)

        abbrev roused : State
        roused = numbered_on (with_transactor q k (woken (transactor_at s k))) (q.next + 1)

        abbrev ended : State
        ended = with_transactor roused k (frozen_by k (transactor_at s k))

        receipt-ok : StepOk (receipt q.next)
        unfolding bound
        receipt-ok = record { kind = omega arith; transactor = omega arith; other = omega arith; zero = omega arith; message = omega (arith, spare.number); value = omega arith }

        posting : Runs y q (pack_step (waking k)) 1 posted
        posting =
            let d = letter-done y q k opened-now spare.place (λ (i : q.next ≡ last_number). omega (arith, spare.number)) in
            runs-one y q posted (waking k) waking-ok (ap (λ (r : Result). r.reply.outcome) d) (ap (λ (r : Result). r.state) d)

        rousing : Runs y posted (pack_step (receipt q.next)) 1 roused
        rousing =
            let d = receipt-done y q p.well.numbers k (transactor_at s k) found idle-status (is_member.behaves idle-status) is_member.state is_member.creation in
            runs-one y posted roused (receipt q.next) receipt-ok (ap (λ (r : Result). r.reply.outcome) d) (ap (λ (r : Result). r.state) d)

        roused-is : transactor_at roused k ≡ woken (transactor_at s k)
        unfolding transactor_at with_transactor
        roused-is = with_transactor-here q k (woken (transactor_at s k)) (in_list q p.well)

        roused-opened : k < roused.opened
        unfolding with_transactor
        roused-opened = opened-now

        ending : Runs y roused (pack_step (freezing k)) 1 ended
        ending =
            let d = freeze-done y roused k roused-opened (woken (transactor_at s k)) roused-is refl in
            runs-one y roused ended (freezing k) freezing-ok (ap (λ (r : Result). r.reply.outcome) d) (ap (λ (r : Result). r.state) d)

        runs-idle : Runs y q (steps_for s (resting_volume y s t) k) 3 ended
        runs-idle =
            subst (λ (b : List ℕ). Runs y q b 3 ended) (sym (steps-idle s (resting_volume y s t) k e f))
            (subst (λ (i : ℕ). Runs y q (pack_step (waking k) ++ pack_step (receipt i) ++ pack_step (freezing k)) 3 ended) p.next
            (runs_append y (runs_append y posting rousing) ending))

        changed-idle : Changed q ended k (frozen_by k (transactor_at s k)) (pick (to_wake s (resting_volume y s t) k) 1 0)
        unfolding with_transactor transactor_at
        changed-idle = record {
          limits = refl;
          opened = refl;
          messages = refl;
          next = rw f refl;
          here = with_transactor-here roused k (frozen_by k (transactor_at s k)) (omega (arith, length-set q.transactors k (woken (transactor_at s k)), in_list q p.well));
          elsewhere = λ u d. with_transactor-other roused k (frozen_by k (transactor_at s k)) u d ∙ with_transactor-other q k (woken (transactor_at s k)) u d;
        }

    record Next : Type 0 where
      steps : ℕ
      after : State
      runs : Runs y q (steps_for s (resting_volume y s t) k) steps after
      prepared : Prepared (suc k) after

    next : (to_wake s (resting_volume y s t) k ≡ true → Spare) → Next
    next spare = go (to_freeze s (resting_volume y s t) k) refl (to_wake s (resting_volume y s t) k) refl
      where
        still-well : {b : List ℕ} {i : ℕ} {q' : State} → Runs y q b i q' → WellFormed y q'
        still-well {b} {i} r = subst (WellFormed y) r.ends (keeps-after z p.well b r.octets i)

        go : (a : Bool) → to_freeze s (resting_volume y s t) k ≡ a → (b : Bool) → to_wake s (resting_volume y s t) k ≡ b → Next
        go false e b f = record { steps = 0; after = q; runs = subst (λ (b : List ℕ). Runs y q b 0 q) (sym (steps-none s (resting_volume y s t) k e)) (runs_none y q); prepared = prepared-same e }
        go true e false f = record { steps = 1; after = _; runs = runs-busy e f; prepared = prepared-more e _ (still-well (runs-busy e f)) (changed-busy e f) }
        go true e true f = record { steps = 3; after = _; runs = runs-idle e f (spare f); prepared = prepared-more e _ (still-well (runs-idle e f (spare f))) (changed-idle e f (spare f)) }

  record Before (k : ℕ) : Type 0 where
    steps : ℕ
    after : State
    runs : Runs y s (chunks k (steps_for s (resting_volume y s t))) steps after
    prepared : Prepared k after

  before : letters_fit y s (resting_volume y s t) ≡ true → (k : ℕ) → k ≤ y.transactors → Before k
  unfolding chunks
  before fits zero h = record { steps = 0; after = s; runs = runs_none y s; prepared = prepared-none }
  before fits (suc k) h =
      let b = before fits k (omega arith) in
      let m = next k h b.prepared (λ f. spare_of k h b.prepared f fits) in
      record { steps = b.steps + m.steps; after = m.after; runs = runs_append y b.runs m.runs; prepared = m.prepared }

-- ---- they are all answered with 0 only if the letters fit

-- the steps of b that are whole, run from s, are answered with 0
record AllDone (y : Layout) (s : State) (b : List ℕ) : Type 0 where
  replies : (i : ℕ) → step_bytes * i + step_bytes ≤ length b → (step_of y (state_after y s b i) (step_at b i)).reply.outcome ≡ done

module _ (y : Layout) (s : State) (b c : List ℕ) (m : ℕ) (whole : length b ≡ step_bytes * m) (all : AllDone y s (b ++ c)) where
  first_done : AllDone y s b
  first_done = record {
    replies = λ i h.
        let l : i < m = omega arith in
        subst (λ (q : State). (step_of y q (step_at b i)).reply.outcome ≡ done) (after-left b c m whole y s i (omega arith))
        (subst (λ (p : Step). (step_of y (state_after y s (b ++ c) i) p).reply.outcome ≡ done) (at_left b c m whole i l) (all.replies i (omega (arith, length-append b c))));
  }

  rest-done : AllDone y (state_after y s b m) c
  rest-done = record {
    replies = λ i h.
        subst (λ (q : State). (step_of y q (step_at c i)).reply.outcome ≡ done) (after-append b c m whole y s i)
        (subst (λ (p : Step). (step_of y (state_after y s (b ++ c) (m + i)) p).reply.outcome ≡ done) (at_right b c m whole i) (all.replies (m + i) (omega (arith, length-append b c, whole))));
  }

-- a list of steps that begins with p: p is answered with 0
done_first : (y : Layout) (s : State) (p : Step) (c : List ℕ) → StepOk p → AllDone y s (pack_step p ++ c) → (step_of y s p).reply.outcome ≡ done
done_first y s p c ok all =
    let a = (first_done y s (pack_step p) c 1 (length-pack_step p) all).replies 0 (omega (arith, length-pack_step p)) in
    ap (λ (q : Step). (step_of y s q).reply.outcome) (sym (step-one p ok)) ∙ ap (λ (q : State). (step_of y q (step_at (pack_step p) 0)).reply.outcome) (sym (after-zero y s (pack_step p))) ∙ a

-- a letter that is answered with 0 had a place and a number
letter-had : (y : Layout) (s : State) (c : ℕ) → (step_of y s (waking c)).reply.outcome ≡ done → (length s.messages < s.limits.messages) × (s.next ≡ last_number → ⊥)
unfolding malformed room_refusal
letter-had y s c e = go (ℕ_discrete (refusal y s (waking c)) 0)
  where
    go : Dec (refusal y s (waking c) ≡ 0) → (length s.messages < s.limits.messages) × (s.next ≡ last_number → ⊥)
    go (no n) = absurd (n (sym (ap (λ (r : Result). r.reply.outcome) (refused-same y s (waking c) n)) ∙ e))
    go (yes z) =
        let a = pick-zero (leb s.opened c) 21 _ (omega arith) (sym ((refuses y s (waking c) refl).letter refl) ∙ z) in
        let b = pick-zero (leb s.limits.messages (length s.messages)) 26 _ (omega arith) a.1 in
        let d = pick-zero (eqb s.next last_number) 27 0 (omega arith) b.1 in
        (leb-false s.limits.messages (length s.messages) b.0, eqb-false s.next last_number d.0)

module _ {y : Layout} (z : Fitting y) {s : State} (w : WellFormed y s) (t : ℕ) (low : t < y.transactors) (there : live (transactor_at s t) ≡ true)
    (mends : mendable (impediment_of y s t) ≡ true) where
  -- after the first k takes, the letters that were needed had room
  data Had (k : ℕ) : Type 0 where
    none_yet : how_many k (to_wake s (resting_volume y s t)) ≡ 0 → Had k
    had-room : length s.messages < s.limits.messages → s.next + how_many k (to_wake s (resting_volume y s t)) ≤ last_number → Had k

  record Came (k : ℕ) : Type 0 where
    before : Before z w t low there mends k
    had : Had k

  -- by the steps of take k, from where those of the takes below it lead
  module _ (k : ℕ) (below : k < y.transactors) {q : State} (p : Prepared z w t low there mends k q) (all : AllDone y q (steps_for s (resting_volume y s t) k)) where
    spared : to_wake s (resting_volume y s t) k ≡ true → Spare z w t low there mends k below p
    spared f =
        let e = wake-freeze s (resting_volume y s t) k f in
        let b = subst (AllDone y q) (steps-idle s (resting_volume y s t) k e f) all in
        let c = first_done y q (pack_step (waking k) ++ pack_step (receipt (s.next + how_many k (to_wake s (resting_volume y s t))))) (pack_step (freezing k)) 2
        (length-append (pack_step (waking k)) (pack_step (receipt (s.next + how_many k (to_wake s (resting_volume y s t))))) ∙ omega (arith, length-pack_step (waking k), length-pack_step (receipt (s.next + how_many k (to_wake s (resting_volume y s t)))))) b in
        let d = letter-had y q k (done_first y q (waking k) (pack_step (receipt (s.next + how_many k (to_wake s (resting_volume y s t))))) (waking-ok z w t low there mends k below p e) c) in
        let h : q.next < bound 2 = p.well.packable.next in
        record { place = d.0; number = less h d.1 }
      where
        less : q.next < bound 2 → (q.next ≡ last_number → ⊥) → q.next < last_number
        less h n = below_last q.next h n

    had-more : Had k → Had (suc k)
    had-more had = go (to_wake s (resting_volume y s t) k) refl had
      where
        go : (b : Bool) → to_wake s (resting_volume y s t) k ≡ b → Had k → Had (suc k)
        go true f had =
            let one : ◌≡◌ {A = ℕ} (pick (to_wake s (resting_volume y s t) k) 1 0) 1 = rw f in
            let a = spared f in
            had-room (subst (λ (l : List Message). length l < s.limits.messages) p.messages (subst (λ (i : ℕ). length q.messages < i) (ap (λ (m : Limits). m.messages) p.limits) a.place))
            (omega (arith, many-next (to_wake s (resting_volume y s t)) k, one, a.number, p.next))
        go false f (none_yet e) = let one : ◌≡◌ {A = ℕ} (pick (to_wake s (resting_volume y s t) k) 1 0) 0 = rw f in none_yet (omega (arith, many-next (to_wake s (resting_volume y s t)) k, one))
        go false f (had-room a b) = let one : ◌≡◌ {A = ℕ} (pick (to_wake s (resting_volume y s t) k) 1 0) 0 = rw f in had-room a (omega (arith, many-next (to_wake s (resting_volume y s t)) k, one))

  came : (k : ℕ) → k ≤ y.transactors → AllDone y s (chunks k (steps_for s (resting_volume y s t))) → Came k
  unfolding chunks how_many
  came zero h all = record { before = record { steps = 0; after = s; runs = runs_none y s; prepared = prepared-none z w t low there mends }; had = none_yet refl }
  came (suc k) h all =
      let m = whole-chunks s (resting_volume y s t) k in
      let c = came k (omega arith) (first_done y s (chunks k (steps_for s (resting_volume y s t))) (steps_for s (resting_volume y s t) k) m.0 m.1 all) in
      let b = c.before in
      let rest = subst (λ (q : State). AllDone y q (steps_for s (resting_volume y s t) k)) b.runs.ends (rest-done y s (chunks k (steps_for s (resting_volume y s t))) (steps_for s (resting_volume y s t) k) b.steps b.runs.whole all) in
      let n = next z w t low there mends k h b.prepared (spared k h b.prepared rest) in
      record {
        before = record { steps = b.steps + n.steps; after = n.after; runs = runs_append y b.runs n.runs; prepared = n.prepared };
        had = had-more k h b.prepared rest c.had;
      }

  -- The steps for all takes and the signing are answered with 0, each, only if there is room for the letters.
  fits-only : AllDone y s (chunks y.transactors (steps_for s (resting_volume y s t)) ++ pack_step (signing (resting_volume y s t))) → letters_fit y s (resting_volume y s t) ≡ true
  unfolding letters_fit letters
  fits-only all = go (came y.transactors (omega arith) (first_done y s (chunks y.transactors (steps_for s (resting_volume y s t))) (pack_step (signing (resting_volume y s t))) (whole-chunks s (resting_volume y s t) y.transactors).0 (whole-chunks s (resting_volume y s t) y.transactors).1 all)).had
    where
      go : Had y.transactors → eqb (how_many y.transactors (to_wake s (resting_volume y s t))) 0 or (ltb (length s.messages) s.limits.messages and leb (s.next + how_many y.transactors (to_wake s (resting_volume y s t))) last_number) ≡ true
      go (none_yet e) = or-of (eqb (how_many y.transactors (to_wake s (resting_volume y s t))) 0) _ (inl (eq-eqb (how_many y.transactors (to_wake s (resting_volume y s t))) 0 e))
      go (had-room a b) = or-of (eqb (how_many y.transactors (to_wake s (resting_volume y s t))) 0) _ (inr (and-of (ltb (length s.messages) s.limits.messages) (leb (s.next + how_many y.transactors (to_wake s (resting_volume y s t))) last_number) (lt-ltb (length s.messages) s.limits.messages a) (le-leb (s.next + how_many y.transactors (to_wake s (resting_volume y s t))) last_number b)))

-- ---- lives are as they were, so who rests on whom is too, and nothing more is in the way

-- the same lives in two states
record Alike (s q : State) : Type 0 where
  live : (u : ℕ) → live (transactor_at q u) ≡ live (transactor_at s u)
  held : (u v : ℕ) → held_at (transactor_at q u).state v ≡ held_at (transactor_at s u).state v
  lives : (u v : ℕ) → incarnation_of (history_at (transactor_at q u).state v) ≡ incarnation_of (history_at (transactor_at s u).state v)
  creation : (u : ℕ) → (transactor_at q u).creation ≡ (transactor_at s u).creation

module _ {s q : State} (a : Alike s q) where
  holds_as : (t : ℕ) (m m' : DependenceMap) → held_at m' t ≡ held_at m t → incarnation_of (history_at m' t) ≡ incarnation_of (history_at m t) → holds_present q t m' ≡ holds_present s t m
  unfolding holds_present
  holds_as t m m' e f = rw (e, f, a.lives t t)

  rests-as : (t u : ℕ) → rests_at q t u ≡ rests_at s t u
  unfolding rests_at
  rests-as t u = rw (
    a.live u,
    holds_as t (transactor_at s u).state (transactor_at q u).state (a.held u t) (a.lives u t),
    holds_as t (transactor_at s u).creation (transactor_at q u).creation (ap (λ (m : DependenceMap). held_at m t) (a.creation u)) (ap (λ (m : DependenceMap). incarnation_of (history_at m t)) (a.creation u)),
  )

  through-as : (k t w : ℕ) → through_at q k t w ≡ through_at s k t w
  unfolding through_at
  through-as zero t w = rw (rests-as t w)
  through-as (suc k) t w = rw (through-as k t w, through-as k t k, through-as k k w)

  withdrawn-in : (u : ℕ) (m m' : DependenceMap) → held_at m' u ≡ held_at m u → incarnation_of (history_at m' u) ≡ incarnation_of (history_at m u) → withdrawn_in q m' u ≡ withdrawn_in s m u
  unfolding withdrawn_in is_withdrawn
  withdrawn-in u m m' e f = rw (e, f, a.live u, a.lives u u)

  withdrawn-as : (c u : ℕ) → withdrawn_by q c u ≡ withdrawn_by s c u
  unfolding withdrawn_by
  withdrawn-as c u = rw (
    withdrawn-in u (transactor_at s c).state (transactor_at q c).state (a.held c u) (a.lives c u),
    withdrawn-in u (transactor_at s c).creation (transactor_at q c).creation (ap (λ (m : DependenceMap). held_at m u) (a.creation c)) (ap (λ (m : DependenceMap). incarnation_of (history_at m u)) (a.creation c)),
  )

  lost_as : (y : Layout) (c : ℕ) → lost_ground y q c ≡ lost_ground y s c
  unfolding lost_ground
  lost_as y c = ap (λ (f : ℕ → Bool). place_from f 0 y.transactors) (λ i u. withdrawn-as c u i)

  hopeless-as : (y : Layout) (c : ℕ) → impedes_at y q 1 c ≡ impedes_at y s 1 c
  hopeless-as y c = hopeless-is y q c ∙ ap (λ (i : ℕ). ltb i y.transactors) (lost_as y c) ∙ sym (hopeless-is y s c)

  volume-as : (y : Layout) (t : ℕ) → group_of y.transactors (λ c. through_at q y.transactors c t) ≡ resting_volume y s t
  unfolding resting_volume
  volume-as y t = ap (group_of y.transactors) (λ i c. through-as y.transactors c t i)

-- a take that was frozen: its marks but for the flag of its own
module _ {y : Layout} {o c : ℕ} {x : Transactor} (m : Member y o c x) (below : c < y.transactors) where
  live-frozen : live (frozen_by c x) ≡ live x
  live-frozen = sym (go m.status refl)
    where
      go : {i : ℕ} → Live i → x.status ≡ i → live x ≡ true
      go is-idle e = rw e
      go is-busy e = rw e

  held-frozen : (v : ℕ) → held_at (frozen_by c x).state v ≡ held_at x.state v
  held-frozen v = go (ℕ_discrete v c)
    where
      go : Dec (v ≡ c) → held_at (frozen_by c x).state v ≡ held_at x.state v
      go (yes e) = subst (λ (i : ℕ). held_at (frozen_by c x).state i ≡ held_at x.state i) (sym e) (held-with_entry m.state c (stabilized (own_history c x)) below ∙ sym m.own)
      go (no d) = held-with_entry-other x.state c (stabilized (own_history c x)) v d

  own-frozen : history_at (frozen_by c x).state c ≡ stabilized (own_history c x)
  own-frozen = history-with_entry m.state c (stabilized (own_history c x)) below

  lives-frozen : (v : ℕ) → incarnation_of (history_at (frozen_by c x).state v) ≡ incarnation_of (history_at x.state v)
  lives-frozen v = go (ℕ_discrete v c)
    where
      go : Dec (v ≡ c) → incarnation_of (history_at (frozen_by c x).state v) ≡ incarnation_of (history_at x.state v)
      go (yes e) = subst (λ (i : ℕ). incarnation_of (history_at (frozen_by c x).state i) ≡ incarnation_of (history_at x.state i)) (sym e) (ap incarnation_of own-frozen)
      go (no d) = ap incarnation_of (history-with_entry-other x.state c (stabilized (own_history c x)) v d)

-- ---- the signing

-- what a signing that is answered with 0 leaves
pub signing-leaves : (y : Layout) (s : State) (v : ℕ) → (step_of y s (signing v)).reply.outcome ≡ done → (step_of y s (signing v)).state ≡ checkpoint_group y s v
unfolding malformed apply_sign
signing-leaves y s v e =
    let a = both (eqb (group_in s v) 0) (group_ready y s v) (sym (signing-done y s v) ∙ eq-eqb (step_of y s (signing v)).reply.outcome done e) in
    ap (λ (r : Result). r.state) (applied-same y s (signing v) ((refuses y s (signing v) refl).sign refl ∙ eqb-true (group_in s v) 0 a.0) ∙ (applies y s (signing v)).sign refl)
    ∙ rw a.1

module _ {y : Layout} (z : Fitting y) {s : State} (w : WellFormed y s) (t : ℕ) (low : t < y.transactors) (there : live (transactor_at s t) ≡ true)
    (mends : mendable (impediment_of y s t) ≡ true) {q : State} (p : Prepared z w t low there mends y.transactors q) where
  -- every take is as it was, or frozen
  by-take : (P : ℕ → Transactor → Type 0) → ((u : ℕ) → P u (transactor_at s u)) → ((u : ℕ) → u < y.transactors → Member y s.opened u (transactor_at s u) → to_freeze s (resting_volume y s t) u ≡ true → P u (frozen_by u (transactor_at s u)))
      → (u : ℕ) → P u (transactor_at q u)
  by-take P f g u = go (sides u y.transactors) (to_freeze s (resting_volume y s t) u) refl
    where
      go : (u < y.transactors) ⊎ (y.transactors ≤ u) → (b : Bool) → to_freeze s (resting_volume y s t) u ≡ b → P u (transactor_at q u)
      go (inl h) true e = subst (P u) (sym (p.frozen u h e)) (g u h (member z w t low there mends u h (sym (in-volume y s t u h) ∙ freeze-named s (resting_volume y s t) u e)) e)
      go (inl h) false e = subst (P u) (sym (p.rest u (λ i. e))) (f u)
      go (inr h) b e = subst (P u) (sym (p.rest u (λ i. absurd (omega arith)))) (f u)

  alike : Alike s q
  alike = record {
    live = by-take (λ u x. live x ≡ live (transactor_at s u)) (λ u. refl) (λ u h m e. live-frozen m h);
    held = λ u v. by-take (λ u x. held_at x.state v ≡ held_at (transactor_at s u).state v) (λ u. refl) (λ u h m e. held-frozen m h v) u;
    lives = λ u v. by-take (λ u x. incarnation_of (history_at x.state v) ≡ incarnation_of (history_at (transactor_at s u).state v)) (λ u. refl) (λ u h m e. lives-frozen m h v) u;
    creation = by-take (λ u x. x.creation ≡ (transactor_at s u).creation) (λ u. refl) (λ u h m e. refl);
  }

  counts : (u : ℕ) → (own_history u (transactor_at q u)).count ≡ (own_history u (transactor_at s u)).count
  counts = by-take (λ u x. (own_history u x).count ≡ (own_history u (transactor_at s u)).count) (λ u. refl) (λ u h m e. ap (λ (h : History). h.count) (own-frozen m h))

  values : (u : ℕ) → (transactor_at q u).value ≡ (transactor_at s u).value
  values = by-take (λ u x. x.value ≡ (transactor_at s u).value) (λ u. refl) (λ u h m e. refl)

  -- who is in the volume is frozen
  all_frozen : (c : ℕ) → c < y.transactors → through_at s y.transactors c t ≡ true → (own_history c (transactor_at q c)).stable ≡ true
  all_frozen c h e = go (to_freeze s (resting_volume y s t) c) refl
    where
      go : (b : Bool) → to_freeze s (resting_volume y s t) c ≡ b → (own_history c (transactor_at q c)).stable ≡ true
      go true f = ap (λ (x : Transactor). (own_history c x).stable) (p.frozen c h f) ∙ ap (λ (h : History). h.stable) (own-frozen (member z w t low there mends c h e) h)
      go false f = ap (λ (x : Transactor). (own_history c x).stable) (p.rest c (λ i. f)) ∙ frozen-already s (resting_volume y s t) c f (in-volume y s t c h ∙ e)

  as_before : (c : ℕ) → through_at q y.transactors c t ≡ true → through_at s y.transactors c t ≡ true
  as_before c e = sym (through-as alike y.transactors c t) ∙ e

  few : y.transactors ≤ group_bits
  few = z.transactors

  clear : Clear y q few t low
  clear = record {
    marks = λ c h e. hopeless-as alike y c ∙ none-in-way y s 1 t (mendable-low y s t mends).0 c h (as_before c e);
    room = λ c h e. exhausted-is y q c ∙ ap (λ (m : Limits). leb m.checkpoints (own_history c (transactor_at q c)).count) p.limits ∙ ap (leb s.limits.checkpoints) (counts c) ∙ (sym (exhausted-is y s c) ∙ none-in-way y s 2 t (mendable-low y s t mends).1 c h (as_before c e));
    frozen = λ c h e. unstable-is y q c ∙ ap not (all_frozen c h (as_before c e));
  }

  could : Checkpointable y q t (resting_volume y s t)
  could = subst (Checkpointable y q t) (volume-as alike y t) (clear-could y q few t low p.well clear)

  abbrev g : ℕ
  g = resting_volume y s t

  signing-fits : StepOk (signing g)
  unfolding bound
  signing-fits = record { kind = omega arith; transactor = omega arith; other = omega arith; zero = omega arith; message = could.bits; value = omega arith }

  leaves : (step_of y q (signing g)).state ≡ checkpoint_group y q g
  leaves = signing-leaves y q g could.signs

  at-last : (P : Transactor → Type 0) (u : ℕ) → ((x : Transactor) → x ≡ transactor_at q u → named g u ≡ true → P (checkpoint_by y u x)) → P (transactor_at q u) → P (transactor_at (checkpoint_group y q g) u)
  unfolding transactor_at checkpoint_group checkpoint_at
  at-last P u f k = ⊎_elim
      (λ (h : u < y.transactors). subst P (sym (get_d_tabulate (checkpoint_at y q g) y.transactors u no_transactor h)) (pick-view P (named g u) _ (transactor_at q u) (λ e. f (transactor_at q u) refl e) (λ e. k)))
      (λ (h : y.transactors ≤ u). subst P (get_or-eq_default q.transactors no_transactor {n = u} (omega (arith, p.well.packable.many)) ∙ sym (get_or-eq_default (tabulate y.transactors (checkpoint_at y q g)) no_transactor {n = u} (omega (arith, length-tabulate (checkpoint_at y q g) y.transactors)))) k)
      (sides u y.transactors)

  last-value : (u : ℕ) → (transactor_at (checkpoint_group y q g) u).value ≡ (transactor_at s u).value
  unfolding checkpoint_by
  last-value u = at-last (λ x. x.value ≡ (transactor_at s u).value) u (λ x e n. ap (λ (i : Transactor). i.value) e ∙ values u) (values u)

  last-other : (u : ℕ) → named g u ≡ false → transactor_at (checkpoint_group y q g) u ≡ transactor_at s u
  last-other u n = at-last (λ x. x ≡ transactor_at s u) u (λ x e m. absurd (false≢true (sym n ∙ m))) (p.rest u (λ h. freeze-unnamed s g u n))

  last-messages : (checkpoint_group y q g).messages ≡ s.messages
  unfolding checkpoint_group
  last-messages = p.messages

-- ---- the theorem

pub plan-none : (y : Layout) (s : State) (t : ℕ) → mendable (impediment_of y s t) and letters_fit y s (resting_volume y s t) ≡ false → plan_of y s t ≡ []
unfolding plan_of steps_to_sign
plan-none y s t = go (mendable (impediment_of y s t)) (letters_fit y s (resting_volume y s t)) (chunks y.transactors (steps_for s (resting_volume y s t)) ++ pack_step (signing (resting_volume y s t)))
  where
    go : (a b : Bool) (l : List ℕ) → a and b ≡ false → pick a (pick b l []) [] ≡ []
    go true true l e = absurd (false≢true (sym e))
    go true false l e = refl
    go false b l e = refl

module _ {y : Layout} (z : Fitting y) {s : State} (w : WellFormed y s) (t : ℕ) (low : t < y.transactors) (there : live (transactor_at s t) ≡ true) where
  module _ (mends : mendable (impediment_of y s t) ≡ true) (fits : letters_fit y s (resting_volume y s t) ≡ true) where
    first : Before z w t low there mends y.transactors
    first = before z w t low there mends fits y.transactors (omega arith)

    -- before the signing: take t has its life, and the volume is ready
    pub record Readied : Type 0 where
      pub list : List ℕ
      pub octets : Octets list
      pub count : ℕ
      pub live : live (transactor_at (state_after y s list count) t) ≡ true
      pub same : incarnation_of (own_history t (transactor_at (state_after y s list count) t)) ≡ incarnation_of (own_history t (transactor_at s t))
      pub could : Checkpointable y (state_after y s list count) t (resting_volume y s t)

    pub readied : Readied
    readied =
        let a = alike z w t low there mends first.prepared in
        let e = sym first.runs.ends in
        record {
          list = chunks y.transactors (steps_for s (resting_volume y s t));
          octets = first.runs.octets;
          count = first.steps;
          live = subst (λ (q : State). live (transactor_at q t) ≡ true) e (a.live t ∙ there);
          same = subst (λ (q : State). incarnation_of (own_history t (transactor_at q t)) ≡ incarnation_of (own_history t (transactor_at s t))) e (a.lives t t);
          could = subst (λ (q : State). Checkpointable y q t (resting_volume y s t)) e (could z w t low there mends first.prepared);
        }

    last_step : Runs y first.after (pack_step (signing (resting_volume y s t))) 1 (checkpoint_group y first.after (resting_volume y s t))
    last_step = runs-one y first.after (checkpoint_group y first.after (resting_volume y s t)) (signing (resting_volume y s t)) (signing-fits z w t low there mends first.prepared)
        (could z w t low there mends first.prepared).signs (leaves z w t low there mends first.prepared)

    abbrev bytes : List ℕ
    bytes = chunks y.transactors (steps_for s (resting_volume y s t)) ++ pack_step (signing (resting_volume y s t))

    plan-is : plan_of y s t ≡ bytes
    unfolding plan_of steps_to_sign
    plan-is = rw (mends, fits)

    all-steps : Runs y s bytes (first.steps + 1) (checkpoint_group y first.after (resting_volume y s t))
    all-steps = runs_append y first.runs last_step

    -- how many steps there are
    many-steps : steps_in bytes ≡ first.steps + 1
    many-steps = let e = all-steps.whole in omega arith

    ends : state_after y s bytes (steps_in bytes) ≡ checkpoint_group y first.after (resting_volume y s t)
    ends = ap (state_after y s bytes) many-steps ∙ all-steps.ends

    pub attains-bytes : Attains y s t bytes
    attains-bytes = record {
      whole = all-steps.whole ∙ ap (λ (i : ℕ). step_bytes * i) (sym many-steps);
      some = omega (arith, many-steps);
      replies = λ i h. all-steps.replies i (omega (arith, many-steps));
      last =
          let e : steps_in bytes - 1 ≡ first.steps + 0 = omega (arith, many-steps) in
          ap (step_at bytes) e ∙ at_right (chunks y.transactors (steps_for s (resting_volume y s t))) (pack_step (signing (resting_volume y s t))) first.steps first.runs.whole 0
          ∙ step-one (signing (resting_volume y s t)) (signing-fits z w t low there mends first.prepared);
      contains = (could z w t low there mends first.prepared).contains;
      values = λ u. ap (λ (q : State). (transactor_at q u).value) ends ∙ last-value z w t low there mends first.prepared u;
      others = λ u n. ap (λ (q : State). transactor_at q u) ends ∙ last-other z w t low there mends first.prepared u n;
      messages = ap (λ (q : State). q.messages) ends ∙ last-messages z w t low there mends first.prepared;
    }

    -- Where neither hopeless nor exhausted is answered and the letters fit, the plan attains the take.
    pub plan-attains : Attains y s t (plan_of y s t)
    plan-attains = subst (Attains y s t) (sym plan-is) attains-bytes

  -- And the steps attain it only if the letters fit, so a plan is kept back only where one of its steps would be refused.
  pub attains-only : mendable (impediment_of y s t) ≡ true → Attains y s t (chunks y.transactors (steps_for s (resting_volume y s t)) ++ pack_step (signing (resting_volume y s t))) → letters_fit y s (resting_volume y s t) ≡ true
  attains-only mends a = fits-only z w t low there mends (record { replies = λ i h. a.replies i (omega (arith, a.whole)) })

  -- Every plan that has a step attains it.
  pub some-attains : 0 < steps_in (plan_of y s t) → Attains y s t (plan_of y s t)
  some-attains h = go (mendable (impediment_of y s t)) refl (letters_fit y s (resting_volume y s t)) refl
    where
      nothing : mendable (impediment_of y s t) and letters_fit y s (resting_volume y s t) ≡ false → Attains y s t (plan_of y s t)
      nothing e = absurd (none_of (plan-none y s t e))
        where
          none_of : plan_of y s t ≡ [] → ⊥
          none_of f = let k : steps_in (plan_of y s t) ≡ 0 = ap (λ (b : List ℕ). steps_in b) f in omega arith

      go : (a : Bool) → mendable (impediment_of y s t) ≡ a → (b : Bool) → letters_fit y s (resting_volume y s t) ≡ b → Attains y s t (plan_of y s t)
      go true e true f = plan-attains e f
      go true e false f = nothing (rw (e, f))
      go false e b f = nothing (rw e)
