-- The other two parts of the answer, work in hand and waiting parcels, are the book's too; and where nothing but the take itself is in the
-- answer, nobody ever holds its life after a fall.
use Prim.Native.Nat.{ℕ, zero, suc, ◌-◌, ◌≤◌, ◌<◌}
use mathlib.Core.Bool.{true, false, false≢true}
use mathlib.Core.Path.{◌≡◌, refl, ap, sym, ◌∙◌, subst}
use mathlib.Core.List.Memᴰ
use mathlib.Core.List.{List, [], ◌∷◌, ◌++◌, map, Memᴰ}
use mathlib.Core.Logic.{◌⊎◌, inl, inr, ⊎_elim, ◌↔◌, ◌≢◌}
use mathlib.Core.Option.{some, none}
use native.Mathlib.Decide.{ℕ_discrete}
use native.Mathlib.Omega.{arith}
use lib.Dec.{eqb, leb}
use lib.ListN.{length, get_or, length-map}
use borrow.Author.Tests.{eqb-true, eqb-false, eq-eqb, le-leb}
use Rattle.octets.specs.Bytes.{◌and◌, part, Octets}
use Rattle.octets.specs.Numbers.{bound}
use Rattle.octets.proofs.Zero.{both}
use Rattle.octets.proofs.Chunks.{sides}
use Rattle.octets.proofs.Put.{octets-part}
use Rattle.marks.specs.Incarnation.{Incarnation, Superseded, next_incarnation, checkpoint_incarnation}
use Rattle.marks.specs.History.{initial_view}
use Rattle.marks.proofs.Order.{superseded-up, superseded-irrefl, precedes-next, precedes-checkpoint}
use Rattle.maps.specs.View.{map_view}
use Rattle.octets.specs.Table.{updated}
use Rattle.octets.proofs.Tables.{updated-view}
use Rattle.maps.proofs.View.{view-empty}
use Rattle.rules.specs.Layout.{Layout, Fitting}
use Rattle.rules.specs.Status as number
use Rattle.rules.specs.State.{Transactor, Message, State, no_message, transactor_at, message_at}
use Rattle.rules.specs.declared.Step.{Step}
use Rattle.rules.specs.Step.{step_at, root, letter, receive, new, send, read, write, freeze, finish, fall, fail, lose, sign}
use Rattle.rules.specs.Refusals.{named}
use Rattle.rules.specs.Rules.{step_of}
use Rattle.rules.specs.Calls.{begin_answer}
use Rattle.rules.specs.Dependents.{holds_present, works_at, carries_at, group_of, dependents_of}
use Rattle.rules.specs.ReadyGroups.{how_many}
use Rattle.rules.proofs.Bits.{named_past}
use Rattle.rules.proofs.Groups.Counting.{many-nowhere}
use Rattle.rules.proofs.Groups.Dependents.{group-names, in_group}
use Rattle.rules.specs.Internal.Well.{StepOk, TransactorFormed, not_opened, gone, alive, WellFormed}
use Rattle.rules.proofs.Keep.Accepted.{kind-known}
use Rattle.rules.proofs.Keep.Run.{step_ok-at}
use Rattle.rules.proofs.Keep.Step.{keeps}
use Rattle.session.specs.Provenance.{Status, unused, idle, busy, annihilated, Live, status_number, Incarnations, In, one, Holder, WaitingMessage, no_waiting_message, Provenance, blank, remove, find}
use Rattle.session.specs.Grounds.{from_start, Ground, in-state, in-creation, RestsOn}
use Rattle.session.specs.Fed.{Call, ProvenanceSteps, ProvenanceCall, provenance-refuses, provenance-begins, provenance-runs, provenance-offers, provenance-shows, ProvenanceOf}
use Rattle.session.specs.Fed as provenance
use Rattle.session.specs.Trace.{Trace, calls_of, GoesOn}
use Rattle.session.specs.Point.{Point}
use Rattle.session.specs.Withdrawal.{Withdraws, ProvenanceFurther, no-further, further, Unheld}
use Rattle.session.specs.Meanings.{CarriedMeans}
use Rattle.session.specs.Steps.{carried, is_nil, rolled_back_holder, reads, writes, freezes, finishes, rolls_back_or_finishes, rolls_back_or_stays, acted, is_dropped, is_rolled_back, received, receives, opens_root, opens_child, applied, checkpointed_at, provenance_refusal, ProvenanceStep, refuses, applies, signing, not-ready}
use Rattle.session.proofs.Model.{Ledger, MessageView, view_message, view}
use Rattle.session.proofs.Tables.{pick-view, and-of}
use Rattle.session.proofs.Sets.{cell-some, in_one}
use Rattle.session.proofs.Relation.{live-used, gone-used, present, Whole, All2, cons2, MessageRel, all2-length, Rel}
use Rattle.session.proofs.Relation as relation
use Rattle.session.proofs.ViewState.{no-transactor, view-no-map}
use Rattle.session.proofs.ViewSeen.{seen-status}
use Rattle.session.proofs.Accepted.{provenance-accepted, acting-live, receiving-live, named_live}
use Rattle.session.proofs.Resting.{rests-ground, holds-exactly}
use Rattle.session.proofs.Turns.{dead-live, Past, passed, vanished, past-on, turn}
use Rattle.session.proofs.Kept.{provenance-determined}
use Rattle.session.proofs.ViewStep.{state-kept}
use Rattle.session.proofs.Unique.{steps-determined}
use Rattle.session.proofs.Calls.{right-length}
use Rattle.session.proofs.Points.{held}
use Rattle.session.proofs.Falling.{rolled, rolled-past, present-not-past, Alone, alone}
use Rattle.session.proofs.Reached.{related, well}
use Rattle.session.proofs.Sign.{own-has, checkpointed-stands}
use Rattle.session.proofs.Withdrawal.{past-withdrawn, resting-means}

-- ---- work in hand, and parcels

-- two lists alike, at place k
pub at_place : {R : MessageView → WaitingMessage → Type 0} (xs : List Message) (ys : List WaitingMessage) → All2 R (map view_message xs) ys → (k : ℕ) → k < length xs → R (view_message (get_or xs k no_message)) (get_or ys k no_waiting_message)
at_place [] ys h k l = absurd (omega arith)
at_place (x ∷ xs) [] h k l = elim h [ ]
at_place (x ∷ xs) (z ∷ ys) (cons2 r h) zero l = r
at_place (x ∷ xs) (z ∷ ys) (cons2 r h) (suc k) l = at_place xs ys h k (omega arith)

pub as_many : (s : State) {b : Provenance} → Rel (view s) b → length s.messages ≡ length b.messages
unfolding view
as_many s r = sym (length-map s.messages view_message) ∙ all2-length r.messages

module _ {y : Layout} {s : State} (well : WellFormed y s) {b : Provenance} (r : Rel (view s) b) (t : ℕ) (there : Live (b.holders t).status) where
  -- a take with work in hand is at work
  working-busy : (u : ℕ) (a : Incarnation) → In t a (b.holders u).behaviour → eqb (transactor_at s u).status number.busy ≡ true
  unfolding view
  working-busy u a i = go (b.holders u).status refl
    where
      status-is : (transactor_at s u).status ≡ status_number (b.holders u).status
      status-is = seen-status well u ∙ ap status_number (r.holders u).status

      nothing : (Live (b.holders u).status → ⊥) → ⊥
      nothing n = Memᴰ.not-nil (subst (λ (h : Holder). In t a h.behaviour) ((r.holders u).gone n) i)

      no-some : none ≡ some (cell-some a i ((r.holders u).behaviour t)).0 → ⊥
      no-some q = let z : ◌≡◌ {A = ℕ} 0 1 = cc in omega arith

      has : map_view (transactor_at s u).behaviour t ≡ some (cell-some a i ((r.holders u).behaviour t)).0
      has = (cell-some a i ((r.holders u).behaviour t)).1

      idle-none : {x : Transactor} → TransactorFormed y s.limits.checkpoints s.opened u x → x.status ≡ number.idle → map_view x.behaviour t ≡ none
      idle-none (not_opened h) e = view-empty y.places y.transactors t
      idle-none (gone h) e = view-empty y.places y.transactors t
      idle-none (alive h a) e = ap (λ m. map_view m t) (a.behaves e) ∙ view-empty y.places y.transactors t

      below : (u < y.transactors) ⊎ (y.transactors ≤ u) → (transactor_at s u).status ≡ number.idle → ⊥
      below (inl h) e = no-some (sym (idle-none (well.transactors u h) e) ∙ has)
      below (inr h) e = no-some (sym (ap (λ (x : Transactor). map_view x.behaviour t) (no-transactor well u h) ∙ view-no-map t) ∙ has)

      go : (q : Status) → (b.holders u).status ≡ q → eqb (transactor_at s u).status number.busy ≡ true
      go unused e = absurd (nothing (λ k. live-used k e))
      go annihilated e = absurd (nothing (λ k. dead-live e k))
      go idle e = absurd (below (sides u y.transactors) (status-is ∙ ap status_number e))
      go busy e = eq-eqb (transactor_at s u).status number.busy (status-is ∙ ap status_number e)

  -- `unfinished`: take u is at work on what holds the present life of take t
  pub works-exactly : (u : ℕ) → (works_at s t u ≡ true) ↔ In t (b.holders t).history.incarnation (b.holders u).behaviour
  unfolding works_at view
  works-exactly u =
      let test = holds-exactly well r t there (transactor_at s u).behaviour (b.holders u).behaviour (r.holders u).behaviour in (
        λ e. test.0 (both (eqb (transactor_at s u).status number.busy) (holds_present s t (transactor_at s u).behaviour) e).1,
        λ i. and-of (eqb (transactor_at s u).status number.busy) (holds_present s t (transactor_at s u).behaviour) (working-busy u (b.holders t).history.incarnation i) (test.1 i),
      )

  -- `carried`: the waiting parcel in place k holds it
  pub carries-exactly : (k : ℕ) → k < length s.messages → (carries_at s t k ≡ true) ↔ In t (b.holders t).history.incarnation (get_or b.messages k no_waiting_message).incarnations
  unfolding carries_at message_at view
  carries-exactly k h =
      let q = at_place {R = MessageRel (present b.holders)} s.messages b.messages r.messages k h in
      holds-exactly well r t there (get_or s.messages k no_message).dependences (get_or b.messages k no_waiting_message).incarnations q.incarnations

-- ---- `unfinished` and `carried`, by the book

module _ {y : Layout} (z : Fitting y) {img : List ℕ} {τ : Trace y img} {s : State} {b : Provenance} (k : Point y img τ s b) where
  idle-past : (t u : ℕ) → y.transactors ≤ u → works_at s t u ≡ false
  unfolding works_at
  idle-past t u h = ap (λ (x : Transactor). eqb x.status number.busy and holds_present s t x.behaviour) (no-transactor (well z k) u h)

  -- Take u is in `unfinished` exactly if the present life of take t is in u's behaviour set. Such a take is at work.
  pub unfinished-means : (t : ℕ) → Live (b.holders t).status → (u : ℕ) → (named (dependents_of y s t).unfinished u ≡ true) ↔ In t (b.holders t).history.incarnation (b.holders u).behaviour
  unfolding dependents_of
  unfinished-means t there u = (
    λ e. (works-exactly (well z k) (related z k) t there u).0 (inside e (sides u y.transactors)),
    λ i. let e = (works-exactly (well z k) (related z k) t there u).1 i in in_group y.transactors (works_at s t) u (below e (sides u y.transactors)) ∙ e,
  )
    where
      inside : named (group_of y.transactors (works_at s t)) u ≡ true → (u < y.transactors) ⊎ (y.transactors ≤ u) → works_at s t u ≡ true
      inside e (inl h) = sym (in_group y.transactors (works_at s t) u h) ∙ e
      inside e (inr h) = absurd (false≢true (sym (named_past _ u y.transactors (group-names y.transactors (works_at s t)).bits h) ∙ e))

      below : works_at s t u ≡ true → (u < y.transactors) ⊎ (y.transactors ≤ u) → u < y.transactors
      below e (inl h) = h
      below e (inr h) = absurd (false≢true (sym (idle-past t u h) ∙ e))

  -- `carried` is how many of the book's waiting parcels have it in their sets.
  pub carried-means : (t : ℕ) → Live (b.holders t).status → CarriedMeans b t (dependents_of y s t).carried
  unfolding dependents_of
  carried-means t there = record {
    carries = carries_at s t;
    exactly = λ i h. carries-exactly (well z k) (related z k) t there i (subst (λ (n : ℕ). i < n) (sym (as_many s (related z k))) h);
    many = ap (λ (n : ℕ). how_many n (carries_at s t)) (as_many s (related z k));
  }

-- ---- a life that is in no set and past comes into none

pub record Absent (b : Provenance) (t : ℕ) (a : Incarnation) : Type 0 where
  pub sets : (u : ℕ) → Whole (b.holders u) t a → ⊥
  pub messages : (q : WaitingMessage) → Memᴰ q b.messages → In t a q.incarnations → ⊥
  pub past : Past (b.holders t) a

-- nobody rests on it
pub absent-rests : (l : Ledger) (b : Provenance) → Rel l b → {t : ℕ} {a : Incarnation} → Absent b t a → (u : ℕ) → RestsOn b u t a → ⊥
absent-rests l b r {t} {a} k u rests = ⊎_elim support (λ c. checkpointed-stands b c (past-withdrawn b k.past)) (rests-ground l b r rests)
  where
    support : Ground (b.holders u) t a → ⊥
    support (in-state i) = k.sets u (relation.in-state i)
    support (in-creation i) = k.sets u (relation.in-creation i)

remove-in : (n : ℕ) (qs : List WaitingMessage) (q : WaitingMessage) → Memᴰ q (remove n qs) → Memᴰ q qs
unfolding remove
remove-in n [] q i = i
remove-in n (p ∷ qs) q i = pick-view (λ (xs : List WaitingMessage). Memᴰ q xs → Memᴰ q (p ∷ qs)) (eqb p.number n) qs (p ∷ remove n qs)
    (λ e j. Memᴰ.tail j) (λ e j. ⊎_elim (λ f. Memᴰ.head f) (λ w. Memᴰ.tail (remove-in n qs q w)) (Memᴰ.cases_cons j)) i

module _ (l : Ledger) (b : Provenance) (r : Rel l b) (y : Layout) (p : Step) {t : ℕ} {a : Incarnation} (k : Absent b t a) where
  abbrev Not : Holder → Type 0
  Not h = Whole h t a → ⊥

  -- take w has another life
  own-not : (w : ℕ) → Live (b.holders w).status → In t a (one w (b.holders w).history.incarnation) → ⊥
  own-not w live i =
      let e = in_one i in
      present-not-past live (subst (Past (b.holders w)) e.1 (subst (λ (x : ℕ). Past (b.holders x) a) e.0 k.past))

  -- and so after a fall or a signing
  next-not : (w : ℕ) → Live (b.holders w).status → In t a (one w (next_incarnation (b.holders w).history.incarnation)) → ⊥
  next-not w live i = let e = in_one i in go e.1 (subst (λ (x : ℕ). Past (b.holders x) a) e.0 k.past)
    where
      go : a ≡ next_incarnation (b.holders w).history.incarnation → Past (b.holders w) a → ⊥
      go e (passed q s) = superseded-irrefl (subst (Superseded a) (sym e) (superseded-up s (precedes-next (b.holders w).history.incarnation)))
      go e (vanished d) = dead-live d live

  checkpoint-not : (w : ℕ) → Live (b.holders w).status → In t a (one w (checkpoint_incarnation (b.holders w).history.incarnation)) → ⊥
  checkpoint-not w live i = let e = in_one i in go e.1 (subst (λ (x : ℕ). Past (b.holders x) a) e.0 k.past)
    where
      go : a ≡ checkpoint_incarnation (b.holders w).history.incarnation → Past (b.holders w) a → ⊥
      go e (passed q s) = superseded-irrefl (subst (Superseded a) (sym e) (superseded-up s (precedes-checkpoint (b.holders w).history.incarnation)))
      go e (vanished d) = dead-live d live

  opened-not : (c : Incarnation) → In t a (one b.opened c) → ⊥
  opened-not c i = go (in_one i).0 k.past
    where
      go : t ≡ b.opened → Past (b.holders t) a → ⊥
      go e (passed q s) = live-used q (r.fresh t (omega arith))
      go e (vanished d) = gone-used (sym d ∙ r.fresh t (omega arith))

  carried-not : (w : ℕ) → Live (b.holders w).status → In t a (carried w (b.holders w)) → ⊥
  carried-not w live i = ⊎_elim
      (λ j. ⊎_elim (λ x. k.sets w (relation.in-creation x)) (λ x. k.sets w (relation.in-behaviour x)) (Memᴰ.append_cases (b.holders w).creation j))
      (own-not w live) (Memᴰ.append_cases ((b.holders w).creation ++ (b.holders w).behaviour) i)

  holder-not : {h : Holder} → (In t a h.state → ⊥) → (In t a h.creation → ⊥) → (In t a h.behaviour → ⊥) → Not h
  holder-not f g e (relation.in-state i) = f i
  holder-not f g e (relation.in-creation i) = g i
  holder-not f g e (relation.in-behaviour i) = e i

  none_in : In t a [] → ⊥
  none_in i = Memᴰ.not-nil i

  module _ (w : ℕ) (live : Live (b.holders w).status) where
    abbrev h : Holder
    h = b.holders w

    s-not : In t a h.state → ⊥
    s-not i = k.sets w (relation.in-state i)

    c-not : In t a h.creation → ⊥
    c-not i = k.sets w (relation.in-creation i)

    b-not : In t a h.behaviour → ⊥
    b-not i = k.sets w (relation.in-behaviour i)

    rolled-not : Not (rolled_back_holder w h)
    unfolding rolled_back_holder
    rolled-not = pick-view Not (is_nil h.history.incarnation.checkpoints) _ _ (λ e. holder-not none_in none_in none_in) (λ e. holder-not (next-not w live) none_in none_in)

    acted-not : (n : ℕ) → Not (acted n w h)
    unfolding acted reads writes freezes finishes rolls_back_or_finishes rolls_back_or_stays
    acted-not n =
        pick-view Not (eqb n read) _ _ (λ e. holder-not s-not c-not (λ i. ⊎_elim s-not b-not (Memᴰ.append_cases h.state i))) λ e0.
        pick-view Not (eqb n write) _ _ (λ e. pick-view Not h.history.stable _ _ (λ f. k.sets w) (λ f. holder-not (λ i. ⊎_elim b-not s-not (Memᴰ.append_cases h.behaviour i)) c-not b-not)) λ e1.
        pick-view Not (eqb n freeze) _ _ (λ e. holder-not s-not c-not b-not) λ e2.
        pick-view Not (eqb n finish) _ _ (λ e. holder-not s-not c-not none_in) λ e3.
        pick-view Not (eqb n fall) _ _ (λ e. pick-view Not h.history.stable _ _ (λ f. holder-not s-not c-not none_in) (λ f. rolled-not)) λ e4.
        pick-view Not h.history.stable _ _ (λ f. k.sets w) (λ f. rolled-not)

    received-not : (q : WaitingMessage) → (In t a q.incarnations → ⊥) → Not (received w h q)
    unfolding received
    received-not q f =
        pick-view Not (is_dropped h q) _ _ (λ e. k.sets w) λ e0.
        pick-view Not (is_rolled_back h q) _ _ (λ e. rolled-not) (λ e. holder-not s-not c-not f)

  found-not : (n : ℕ) (qs : List WaitingMessage) → ((q : WaitingMessage) → Memᴰ q qs → In t a q.incarnations → ⊥) → In t a (find n qs).incarnations → ⊥
  unfolding find
  found-not n [] f = none_in
  found-not n (q ∷ qs) f = pick-view (λ (m : WaitingMessage). In t a m.incarnations → ⊥) (eqb q.number n) _ _ (λ e. f q (Memᴰ.head refl)) (λ e. found-not n qs (λ m i. f m (Memᴰ.tail i)))

  sent-not : (i : Incarnations) (to : ℕ) → (In t a i → ⊥) → (q : WaitingMessage) → Memᴰ q (b.messages ++ (record { number = b.next; addressee = to; incarnations = i } ∷ [])) → In t a q.incarnations → ⊥
  sent-not i to f q m = ⊎_elim (k.messages q) (λ j. subst (λ (z : WaitingMessage). In t a z.incarnations → ⊥) (sym (Memᴰ.eq_of_singleton j)) f) (Memᴰ.append_cases b.messages m)

  put-not : (w : ℕ) (h : Holder) → Not h → (u : ℕ) → Not (updated b.holders w h u)
  put-not w h f = updated-view (λ (u : ℕ) (z : Holder). Not z) b.holders w h f (λ u n. k.sets u)

  abbrev Nowhere : Provenance → Type 0
  Nowhere c = ((u : ℕ) → Not (c.holders u)) × ((q : WaitingMessage) → Memᴰ q c.messages → In t a q.incarnations → ⊥)

  applied-nowhere : provenance_refusal y b p ≡ 0 → (p.kind ≡ sign → ⊥) → Nowhere (applied b p)
  unfolding applied opens_root opens_child receives
  applied-nowhere passes other =
      let w = p.transactor in let n = p.kind in
      let high = kind-known (provenance-accepted l b r y p passes) in
      let live : new ≤ n → n ≤ fail → Live (b.holders w).status = λ f g. acting-live l b r y p passes (and-of (leb new n) (leb n fail) (le-leb new n f) (le-leb n fail g)) in
      pick-view Nowhere (eqb n root) _ _ (λ e. (put-not b.opened _ (holder-not (opened-not initial_view.incarnation) none_in none_in), k.messages)) λ e0.
      pick-view Nowhere (eqb n letter) _ _ (λ e. (k.sets, sent-not [] w none_in)) λ e1.
      pick-view Nowhere (eqb n receive) _ _ (λ e. (
        put-not (find p.message b.messages).addressee _ (received-not (find p.message b.messages).addressee (receiving-live l b r y p passes (eqb-true n receive e)) (find p.message b.messages) (found-not p.message b.messages k.messages)),
        λ q i. k.messages q (remove-in p.message b.messages q i),
      )) λ e2.
      pick-view Nowhere (eqb n new) _ _ (λ e.
      let i = eqb-true n new e in
      let v = live (omega arith) (omega arith) in (
        updated-view (λ (u : ℕ) (z : Holder). Not z) (updated b.holders w _) b.opened _
            (holder-not (opened-not initial_view.incarnation) (carried-not w v) none_in)
            (λ u m. put-not w _ (holder-not (s-not w v) (c-not w v) (λ j. ⊎_elim (opened-not initial_view.incarnation) (b-not w v) (Memᴰ.append_cases (one b.opened initial_view.incarnation) j))) u),
        k.messages,
      )) λ e3.
      pick-view Nowhere (eqb n send) _ _ (λ e. let i = eqb-true n send e in (k.sets, sent-not (carried w (b.holders w)) p.other (carried-not w (live (omega arith) (omega arith))))) λ e4.
      pick-view Nowhere (eqb n lose) _ _ (λ e. (k.sets, λ q i. k.messages q (remove-in p.message b.messages q i))) λ e5.
      let n0 = eqb-false n root e0 in let n1 = eqb-false n letter e1 in let n2 = eqb-false n receive e2 in let n5 = eqb-false n lose e5 in
      (put-not w _ (acted-not w (live (omega arith) (omega arith)) n), k.messages)

  checkpointed-nowhere : (g : ℕ) → ((u : ℕ) → named g u ≡ true → Live (b.holders u).status) → (u : ℕ) → Not (checkpointed_at b g u)
  unfolding checkpointed_at
  checkpointed-nowhere g lives u = pick-view Not (named g u) _ _ (λ e. holder-not (checkpoint-not u (lives u e)) none_in none_in) (λ e. k.sets u)

  -- Every step keeps it so.
  pub absent-on : p.message < bound 2 → {c : Provenance} → ProvenanceStep y b p c → Absent c t a
  absent-on bits {c} o = let q = nowhere bits o in record { sets = q.0; messages = q.1; past = past-on k.past (turn l b r y p bits o t) }
    where
      nowhere : p.message < bound 2 → {c : Provenance} → ProvenanceStep y b p c → Nowhere c
      nowhere bits (refuses z) = (k.sets, k.messages)
      nowhere bits (applies z n) = applied-nowhere z n
      nowhere bits (signing z q e) = (checkpointed-nowhere p.message (named_live l b r y p z q bits), k.messages)
      nowhere bits (not-ready z q e) = (k.sets, k.messages)

-- ---- a fall after which nobody holds the life

-- where take t's life is past, no parcel is new
module _ (l : Ledger) (b : Provenance) (r : Rel l b) (y : Layout) (p : Step) (t : ℕ) (live : Live (b.holders t).status) where
  abbrev Fewer : Provenance → Type 0
  Fewer c = Past (c.holders t) (b.holders t).history.incarnation → (q : WaitingMessage) → Memᴰ q c.messages → Memᴰ q b.messages

  applied-fewer : Fewer (applied b p)
  unfolding applied opens_root opens_child receives
  applied-fewer =
      let n = p.kind in
      pick-view Fewer (eqb n root) _ _ (λ e x q i. i) λ e0.
      pick-view Fewer (eqb n letter) _ _ (λ e x. absurd (present-not-past live x)) λ e1.
      pick-view Fewer (eqb n receive) _ _ (λ e x q i. remove-in p.message b.messages q i) λ e2.
      pick-view Fewer (eqb n new) _ _ (λ e x q i. i) λ e3.
      pick-view Fewer (eqb n send) _ _ (λ e x. absurd (present-not-past live x)) λ e4.
      pick-view Fewer (eqb n lose) _ _ (λ e x q i. remove-in p.message b.messages q i) λ e5.
      λ x q i. i

  pub fewer : {c : Provenance} → ProvenanceStep y b p c → Fewer c
  fewer (refuses z) = λ x q i. i
  fewer (applies z n) = applied-fewer
  fewer (signing z k e) = λ x q i. i
  fewer (not-ready z k e) = λ x q i. i

-- a life of its own that is past is in no set of a take
own-past : (l : Ledger) (c : Provenance) → Rel l c → {t : ℕ} {a : Incarnation} → Past (c.holders t) a → Whole (c.holders t) t a → ⊥
own-past l c r {t} {a} (passed w s) x = (r.holders t).coherent t a (c.holders t).history.incarnation x (relation.in-state (own-has l c r t w)) s
own-past l c r {t} {a} (vanished e) x = go x ((r.holders t).gone (dead-live e))
  where
    none : Whole (blank (c.holders t).status) t a → ⊥
    none (relation.in-state i) = Memᴰ.not-nil i
    none (relation.in-creation i) = Memᴰ.not-nil i
    none (relation.in-behaviour i) = Memᴰ.not-nil i

    go : Whole (c.holders t) t a → c.holders t ≡ blank (c.holders t).status → ⊥
    go x q = none (subst (λ (h : Holder). Whole h t a) q x)

-- the place of a parcel in the list
pub place-in : (qs : List WaitingMessage) (q : WaitingMessage) → Memᴰ q qs → (k : ℕ) × (k < length qs) × (get_or qs k no_waiting_message ≡ q)
place-in [] q i = absurd (Memᴰ.not-nil i)
place-in (p ∷ qs) q i = ⊎_elim (λ e. (0, omega arith, sym e)) (λ j. let k = place-in qs q j in (suc k.0, omega (arith, k.1), k.2)) (Memᴰ.cases_cons i)

module _ {y : Layout} (z : Fitting y) {img : List ℕ} {τ : Trace y img} {s : State} {b : Provenance} (k : Point y img τ s b) where
  -- take t falls at step p, and the answer about it named nobody but t, no work in hand but its own, and no parcel
  module _ {p : Step} (ok : StepOk p) {c : Provenance} (taken : ProvenanceStep y b p c) {t : ℕ} (w : Withdraws y s p t)
      (resting-alone : (u : ℕ) → named (dependents_of y s t).resting u ≡ true → t ≡ u)
      (working-alone : (u : ℕ) → named (dependents_of y s t).unfinished u ≡ true → t ≡ u)
      (none-carried : (dependents_of y s t).carried ≡ 0) where
    there : Live (b.holders t).status
    there = (rolled (well z k) (related z k) p ok.message w).0

    rel-after : Rel (view (step_of y s p).state) c
    rel-after =
        let q = state-kept (well z k) (related z k) p ok.message in
        subst (λ (d : Provenance). Rel (view (step_of y s p).state) d) (provenance-determined q.step taken) q.rel

    life-past : Past (c.holders t) (b.holders t).history.incarnation
    life-past = rolled-past (well z k) (keeps z (well z k) ok) (related z k) rel-after (rolled (well z k) (related z k) p ok.message w).1

    only-t : Alone b c t
    only-t = alone (view s) b (related z k) y p t there taken life-past

    others-not : (u : ℕ) → t ≢ u → Whole (b.holders u) t (b.holders t).history.incarnation → ⊥
    others-not u n (relation.in-state i) = n (resting-alone u ((resting-means z k t there u).1 (from_start (in-state i))))
    others-not u n (relation.in-creation i) = n (resting-alone u ((resting-means z k t there u).1 (from_start (in-creation i))))
    others-not u n (relation.in-behaviour i) = n (working-alone u ((unfinished-means z k t there u).1 i))

    sets-not : (u : ℕ) → Dec (t ≡ u) → Whole (c.holders u) t (b.holders t).history.incarnation → ⊥
    sets-not u (yes e) x = own-past (view (step_of y s p).state) c rel-after life-past (subst (λ (v : ℕ). Whole (c.holders v) t (b.holders t).history.incarnation) (sym e) x)
    sets-not u (no n) x = others-not u n (subst (λ (h : Holder). Whole h t (b.holders t).history.incarnation) (only-t.others u n) x)

    messages-not : (q : WaitingMessage) → Memᴰ q c.messages → In t (b.holders t).history.incarnation q.incarnations → ⊥
    messages-not q i x =
        let m = place-in b.messages q (fewer (view s) b (related z k) y p t there taken life-past q i) in
        let n = carried-means z k t there in
        false≢true (sym (many-nowhere n.carries (length b.messages) (sym n.many ∙ none-carried) m.0 m.1) ∙ (n.exactly m.0 m.1).1 (subst (λ (f : WaitingMessage). In t (b.holders t).history.incarnation f.incarnations) (sym m.2) x))

    absent-then : Absent c t (b.holders t).history.incarnation
    absent-then = record { sets = λ u. sets-not u (ℕ_discrete t u); messages = messages-not; past = life-past }

    -- the book comes to d beside some state of the ledger
    record Still (d : Provenance) : Type 1 where
      beside : State
      well : WellFormed y beside
      rel : Rel (view beside) d
      absent : Absent d t (b.holders t).history.incarnation

    still : {d : Provenance} → ProvenanceFurther y c d → Still d
    still no-further = record { beside = (step_of y s p).state; well = keeps z (well z k) ok; rel = rel-after; absent = absent-then }
    still (further {now} {after} o steps octets i next) = one (still o)
      where
        one : Still now → Still after
        one q =
            let fits = step_ok-at steps octets i in
            let m = state-kept q.well q.rel (step_at steps i) fits.message in
            record {
              beside = (step_of y q.beside (step_at steps i)).state;
              well = keeps z q.well fits;
              rel = subst (λ (e : Provenance). Rel (view (step_of y q.beside (step_at steps i)).state) e) (provenance-determined m.step next) m.rel;
              absent = absent-on (view q.beside) now q.rel y (step_at steps i) q.absent fits.message next;
            }

    -- Then nobody holds that life, after whatever further steps.
    pub nobody-holds : {d : Provenance} → ProvenanceFurther y c d → Unheld d t (b.holders t).history.incarnation
    nobody-holds {d} o =
        let q = still o in
        record {
          state = λ u i. q.absent.sets u (relation.in-state i);
          creation = λ u i. q.absent.sets u (relation.in-creation i);
          behaviour = λ u i. q.absent.sets u (relation.in-behaviour i);
          messages = q.absent.messages;
          rests = absent-rests (view q.beside) d q.rel q.absent;
        }

-- ---- the later books of a session are come to by further steps

module _ {y : Layout} where
  pub further-trans : {b c d : Provenance} → ProvenanceFurther y b c → ProvenanceFurther y c d → ProvenanceFurther y b d
  further-trans o no-further = o
  further-trans o (further q steps octets i next) = further (further-trans o q) steps octets i next

  -- from any step of a part to any later one
  pub further-steps : (steps : List ℕ) {b c d : Provenance} → Octets steps → {i j : ℕ} → ProvenanceSteps y b steps i c → ProvenanceSteps y b steps j d → i ≤ j → ProvenanceFurther y c d
  further-steps steps {b} {c} octets {i} from provenance.none l = let e : i ≡ 0 = omega arith in subst (ProvenanceFurther y c) (steps-determined (subst (λ (n : ℕ). ProvenanceSteps y b steps n c) e from) provenance.none) no-further
  further-steps steps {b} {c} {d} octets {i} from (provenance.more {i = m} {c = now} q next) l = go (ℕ_discrete i (suc m)) (λ n. further-steps steps octets from q n)
    where
      go : Dec (i ≡ suc m) → (i ≤ m → ProvenanceFurther y c now) → ProvenanceFurther y c d
      go (yes e) o = subst (ProvenanceFurther y c) (steps-determined (subst (λ (n : ℕ). ProvenanceSteps y b steps n c) e from) (provenance.more q next)) no-further
      go (no n) o = further (o (omega arith)) steps octets m next

  -- and over a call that follows, any but an accepted begin
  pub further-call : Fitting y → {img : List ℕ} (τ : Trace y img) {c : Call} {b d : Provenance} → ProvenanceOf y (calls_of τ) b → GoesOn y img c → ProvenanceCall y b c d → ProvenanceFurther y b d
  unfolding begin_answer
  further-call z τ f g (provenance-refuses n) = no-further
  further-call z τ f g (provenance-begins {m} e) = absurd (g m refl (rw (right-length (held z τ f)) e))
  further-call z τ f g (provenance-runs {list} {o} {start} {end} e q) = further-steps (part start (end - start) list) (octets-part start (end - start) list o) provenance.none q (omega arith)
  further-call z τ f g (provenance-offers e) = no-further
  further-call z τ f g (provenance-shows e) = no-further
