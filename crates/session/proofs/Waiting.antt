-- Document 02, W14, "Nothing lost by waiting": the fact to show first, and that a volume that is ready stays so.
use Prim.Native.Nat.{ℕ, zero, suc, ◌-◌, ◌≤◌, ◌<◌}
use mathlib.Core.Bool.{Bool, true, false, not, true≢false, false≢true}
use mathlib.Core.Path.{◌≡◌, refl, ap, sym, ◌∙◌, subst}
use mathlib.Core.List.{List}
use mathlib.Core.Logic.{◌⊎◌, inl, inr, ◌↔◌}
use mathlib.Core.Option.{none, some}
use native.Mathlib.Decide.{ℕ_discrete}
use native.Mathlib.Omega.{arith}
use lib.Dec.{eqb}
use borrow.Author.Tests.{eqb-true}
use Rattle.octets.specs.Bytes.{◌and◌, part, Octets}
use Rattle.octets.specs.Numbers.{bound}
use Rattle.octets.proofs.Put.{octets-part}
use Rattle.marks.specs.History.{HistoryView}
use Rattle.maps.specs.declared.DependenceMap.{DependenceMap}
use Rattle.maps.specs.Map.{held_at, history_at}
use Rattle.maps.specs.Internal.View.{map_view, SupersededView}
use Rattle.maps.proofs.View.{view-some}
use Rattle.rules.specs.Layout.{Layout, Fitting, base}
use Rattle.rules.specs.State.{Message, State, transactor_at, message_at, place_of}
use Rattle.rules.specs.declared.Step.{Step}
use Rattle.rules.specs.declared.Reply.{Reply}
use Rattle.rules.specs.Step.{step_at, receive, sign, done, not_ready}
use Rattle.rules.specs.Refusals.{Seen, group_bits, named, at_last, last_rolls_back, refusal_of}
use Rattle.rules.specs.Rules.{Effect, Result, entry_ready, message_superseded, receipt_rolls_back, receive_by, seen, refusal, apply_receive, apply, step_of}
use Rattle.rules.specs.Groups as groups
use Rattle.rules.specs.Pack.{unpack}
use Rattle.rules.specs.Calls.{begin_answer, begin_image, state_after, steps_in, run_answer, ran_image, run_image}
use Rattle.rules.specs.Internal.Well.{StepOk, WellFormed}
use Rattle.rules.proofs.ByKind.Applied.{applies}
use Rattle.rules.proofs.Pack.RoundTrip.{unpack-pack}
use Rattle.rules.proofs.Keep.Accepted.{refusal-view}
use Rattle.rules.proofs.Keep.Run.{step_ok-at}
use Rattle.rules.proofs.Keep.Step.{refused-same, applied-same, keeps, keeps-after, fitting-base}
use Rattle.session.specs.Provenance.{Live, Holder, Provenance}
use Rattle.session.specs.Grounds.{Equal}
use Rattle.session.specs.Steps.{provenance_refusal}
use Rattle.session.specs.Fed.{Call, run}
use Rattle.session.specs.Trace.{Answer, Performed, beginning, running, offering, showing, Trace, none, one_more, extended, GoesOn}
use Rattle.session.specs.Waiting.{ReadyGroup, Grounded, Rolls, rolls-back, annihilates, rolls-last, Stands, NoSigning, Waits, Waiting, CheckpointsTransactor, Uncheckpointed, Leaves, Leaving}
use Rattle.session.proofs.Model.{MessageView, find_message, known_map, view}
use Rattle.session.proofs.Tables.{pick-view}
use Rattle.session.proofs.Relation.{live-or-not, Rel, own-history}
use Rattle.session.proofs.Accepted.{named_live}
use Rattle.session.proofs.Sign.{EntryReady, Ready, ready-live, equal-ready}
use Rattle.session.proofs.ViewState.{own_view, view-find}
use Rattle.session.proofs.ViewRules.{rolled_back_at, rolled_back-test, entry-test}
use Rattle.session.proofs.ViewStep.{stable-below, state-kept}
use Rattle.session.proofs.Step.{SigningRight, checkpointed, uncheckpointed, StepRight, step_right}
use Rattle.session.proofs.Run.{Ran, run-right}
use Rattle.session.proofs.Grown.{grown}
use Rattle.session.proofs.Stands.{stands, With, with-exists, rule-with}
use Rattle.session.proofs.Carried.{Signs, signs-on}
use Rattle.session.proofs.Remainder.{Beside, beside-on}

-- ---- what a receipt replies that makes nobody fall

refusal-else : (x : ℕ) → (0 ≡ x → ⊥) → ((n : ℕ) → 20 ≤ n → (n ≡ 28 → ⊥) → n ≡ x → ⊥) → (y : Layout) (w : Seen) (p : Step) → last_rolls_back y w p ≡ false → refusal_of y w p ≡ x → ⊥
refusal-else x free others y w p e =
    refusal-view (λ n. n ≡ x → ⊥) y w p (λ n low high k. others n low k) (λ f. others 31 (omega arith) (omega arith)) (λ f. absurd (true≢false (sym f ∙ e))) free

rolls-no-refusal : {x : ℕ} → Rolls x → (y : Layout) (w : Seen) (p : Step) → last_rolls_back y w p ≡ false → refusal_of y w p ≡ x → ⊥
rolls-no-refusal rolls-back = refusal-else 3 (λ e. omega arith) (λ n h k e. omega arith)
rolls-no-refusal annihilates = refusal-else 4 (λ e. omega arith) (λ n h k e. omega arith)
rolls-no-refusal rolls-last = refusal-else 28 (λ e. omega arith) (λ n h k e. k e)

rolls-high : {x : ℕ} → Rolls x → 3 ≤ x
rolls-high rolls-back = omega arith
rolls-high annihilates = omega arith
rolls-high rolls-last = omega arith

module _ (y : Layout) (s : State) (p : Step) (k : p.kind ≡ receive) (e : rolled_back_at y s p.message ≡ false) where
  -- 28 asks for a fall
  no-28 : last_rolls_back y (seen y s) p ≡ false
  unfolding last_rolls_back seen receipt_rolls_back rolled_back_at
  no-28 =
      let q : Message = message_at s (place_of s p.message) in
      rw (k, e) (go (not (message_superseded y (transactor_at s q.addressee) q)) (at_last y (seen y s) q.addressee))
    where
      go : (c d : Bool) → (c and false) and d ≡ false
      go true d = refl
      go false d = refl

  accepted-low : (apply y s p).reply.outcome ≤ 2
  unfolding apply_receive receive_by rolled_back_at
  accepted-low = rw ((applies y s p).receive k, e) (pick-view (λ (x : Effect). x.outcome ≤ 2)
      (message_superseded y (transactor_at s (message_at s (place_of s p.message)).addressee) (message_at s (place_of s p.message))) _ _ (λ f. omega arith) (λ f. omega arith))

  receipt-stands : Rolls (step_of y s p).reply.outcome → ⊥
  unfolding refusal
  receipt-stands f = go (ℕ_discrete (refusal y s p) 0)
    where
      go : Dec (refusal y s p ≡ 0) → ⊥
      go (yes q) = omega (arith, rolls-high f, accepted-low, ap (λ (x : Result). x.reply.outcome) (applied-same y s p q))
      go (no n) = rolls-no-refusal f y (seen y s) p no-28 (sym (ap (λ (x : Result). x.reply.outcome) (refused-same y s p n)))

-- ---- states beside a book

module _ {y : Layout} (z : Fitting y) {s : State} (well : WellFormed y s) {b : Provenance} (r : Rel (view s) b) where
  module _ (v : ℕ) (bits : v < bound 2) where
    signing-ok : StepOk (groups.signing v)
    unfolding bound
    signing-ok = record { kind = omega arith; transactor = omega arith; other = omega arith; zero = omega arith; message = bits; value = omega arith }

    -- the signing of volume v would reply 0 exactly if the book signs it
    pub signs-exactly : ((step_of y s (groups.signing v)).reply.outcome ≡ done) ↔ Signs y b v
    signs-exactly = (λ e. to e (ℕ_discrete (provenance_refusal y b (groups.signing v)) 0), λ k. of k.same (right.signing k.zero refl))
      where
        right : StepRight y s b (groups.signing v) (step_right z well r signing-ok).after
        right = (step_right z well r signing-ok).right

        to : (step_of y s (groups.signing v)).reply.outcome ≡ done → Dec (provenance_refusal y b (groups.signing v) ≡ 0) → Signs y b v
        to e (no n) = absurd (n (sym (ap (λ (x : Reply). x.outcome) (right.refused n).0) ∙ e))
        to e (yes q) = go (right.signing q refl)
          where
            go : SigningRight y s b (groups.signing v) → Signs y b v
            go (checkpointed k f g) = record { zero = q; same = k }
            go (uncheckpointed k f g) = let h : ◌≡◌ {A = ℕ} not_ready done = sym (ap (λ (x : Reply). x.outcome) f) ∙ e in absurd (omega arith)

        of : Equal b v → SigningRight y s b (groups.signing v) → (step_of y s (groups.signing v)).reply.outcome ≡ done
        of k (checkpointed q f g) = ap (λ (x : Reply). x.outcome) f
        of k (uncheckpointed n f g) = absurd (n k)

module _ {y : Layout} (z : Fitting y) {s : State} (well : WellFormed y s) {b : Provenance} (r : Rel (view s) b) where
  pub ready_on : {p : Step} → StepOk p → (p.kind ≡ sign → ⊥) → {v : ℕ} → ReadyGroup y s v → ReadyGroup y (step_of y s p).state v
  ready_on {p} fits other {v} before =
      let k = state-kept well r p fits.message in
      let now = (signs-exactly z well r v before.bits).0 before.signs in
      let after = signs-on (view s) b r y v before.bits now (view (step_of y s p).state) k.rel p other k.step in
      record { bits = before.bits; signs = (signs-exactly z (keeps z well fits) k.rel v before.bits).1 after }

  pub ready-rule : {v : ℕ} → ReadyGroup y s v → Ready (view s) (named v)
  ready-rule {v} before =
      let k = (signs-exactly z well r v before.bits).0 before.signs in
      equal-ready (view s) b r v (named_live (view s) b r y (groups.signing v) k.zero refl before.bits) k.same

  -- parcel n shows take t, its addressee, no fall
  unshown : (t n : ℕ) → (message_at s (place_of s n)).addressee ≡ t → (SupersededView (known_map ((view s).nodes t)) (find_message n (view s).messages).dependences → ⊥) → rolled_back_at y s n ≡ false
  unshown t n e f = go (rolled_back_at y s n) refl
    where
      go : (c : Bool) → rolled_back_at y s n ≡ c → c ≡ false
      go false q = refl
      go true q = absurd (f (subst (λ u. SupersededView (known_map ((view s).nodes u)) (find_message n (view s).messages).dependences) (ap (λ (x : MessageView). x.addressee) (view-find s n) ∙ e) ((rolled_back-test well n).0 q)))

  -- to a named take of a volume that meets the rule
  rule-stands : (v : ℕ) → Ready (view s) (named v) → (t : ℕ) → named v t ≡ true → Stands y s t
  rule-stands v rule t k p kind e = receipt-stands y s p kind (unshown t p.message e
      (stands (view s) b r (named v) t (ready-live (view s) b r v rule t k) (λ u x q. rule.state t k u x) (λ u x q. rule.creation t k u x) p.message))

  -- ---- the fact, in a state

  module _ {v t : ℕ} (g : Grounded s v t) where
    passes : (N : DependenceMap) → ((u : ℕ) → (u ≡ t → ⊥) → held_at N u ≡ true → entry_ready s v u (history_at N u) ≡ true)
        → (u : ℕ) (x : HistoryView) → (u ≡ t → ⊥) → map_view N u ≡ some x → EntryReady (view s) (named v) u x
    passes N f u x n e = let p = view-some N u x e in rw p.1 ((entry-test well v u (history_at N u)).0 (f u n p.0))

    -- a frozen take is live: of any other the own mark is the opening one
    grounded-live : Live (b.holders t).status
    unfolding view
    grounded-live = go (live-or-not (b.holders t).status)
      where
        go : Live (b.holders t).status ⊎ (Live (b.holders t).status → ⊥) → Live (b.holders t).status
        go (inl k) = k
        go (inr k) = absurd (false≢true (sym (ap (λ (h : Holder). h.history.stable) ((r.holders t).gone k)) ∙ sym (ap (λ (x : HistoryView). x.stable) (own-history (r.holders t))) ∙ ap (λ (x : HistoryView). x.stable) (own_view well t) ∙ g.stable))

    no-message : (n : ℕ) → SupersededView (known_map ((view s).nodes t)) (find_message n (view s).messages).dependences → ⊥
    unfolding view
    no-message = stands (view s) b r (named v) t grounded-live (passes (transactor_at s t).state g.state) (passes (transactor_at s t).creation g.creation)

    grounded-stands : Stands y s t
    grounded-stands p k e = receipt-stands y s p k (unshown t p.message e (no-message p.message))

    -- with a ready volume: the volume with this take meets the rule
    grounded-with : v < bound 2 → Ready (view s) (named v) → (g : ℕ) × With v t g × Ready (view s) (named g)
    unfolding view
    grounded-with bits rule =
        let still = ap (λ (x : HistoryView). x.stable) (own_view well t) ∙ g.stable in
        let below : t < group_bits = omega (arith, z.transactors, stable-below well t still) in
        let w = with-exists v t bits below in (
          w.0,
          w.1,
          rule-with (view s) b r v t w.0 w.1 rule grounded-live still
              (passes (transactor_at s t).state g.state) (passes (transactor_at s t).creation g.creation),
        )

-- ---- a take beside a ready volume, in a state

module _ {y : Layout} (z : Fitting y) {s : State} (well : WellFormed y s) {b : Provenance} (r : Rel (view s) b) where
  -- the volume with it meets the rule
  grounded-beside : {v t : ℕ} → ReadyGroup y s v → Grounded s v t → Beside (view s) t
  grounded-beside before g =
      let w = grounded-with z well r g before.bits (ready-rule z well r before) in
      record { group = w.0; own = w.1.own; rule = w.2 }

  beside-stands : (t : ℕ) → Beside (view s) t → Stands y s t
  beside-stands t k = rule-stands z well r k.group k.rule t k.own

  beside-stays : (t : ℕ) {p : Step} → StepOk p → (CheckpointsTransactor y s p t → ⊥) → Beside (view s) t → Beside (view (step_of y s p).state) t
  beside-stays t {p} fits apart now =
      let k = state-kept well r p fits.message in
      beside-on (view s) b r y t now (view (step_of y s p).state) k.rel p fits.message (λ q i e n. signs-not e n i (right.signing q i)) k.step
    where
      right : StepRight y s b p (step_right z well r fits).after
      right = (step_right z well r fits).right

      signs-not : Equal b p.message → named p.message t ≡ true → p.kind ≡ sign → SigningRight y s b p → ⊥
      signs-not e n i (checkpointed x f g) = apart (record { kind = i; names = n; signs = ap (λ (x : Reply). x.outcome) f })
      signs-not e n i (uncheckpointed x f g) = x e

-- ---- every session

module _ (y : Layout) (z : Fitting y) {img : List ℕ} (τ : Trace y img) where
  module _ (steps : List ℕ) (octets : Octets steps) where
    abbrev after : ℕ → State
    after i = state_after y (unpack y img) steps i

    well-after : (i : ℕ) → WellFormed y (state_after y (unpack y img) steps i)
    well-after = keeps-after z (grown z τ).holds.well steps octets

    ran : (i : ℕ) → Ran y (unpack y img) (grown z τ).provenance steps i
    ran = run-right z (grown z τ).holds.well (grown z τ).holds.rel steps octets

    -- what each step with C keeps holds after all of them, if they have it
    keep-on : (C : ℕ → Type 0) (P : State → Type 0) → ((i : ℕ) → C i → P (after i) → P (after (suc i))) → (i j : ℕ) → i ≤ j → ((k : ℕ) → i ≤ k → k < j → C k) → P (after i) → P (after j)
    keep-on C P next i j h others now = go j h others
      where
        go : (k : ℕ) → i ≤ k → ((n : ℕ) → i ≤ n → n < k → C n) → P (after k)
        go zero e f = let q : i ≡ 0 = omega arith in subst (λ (n : ℕ). P (after n)) q now
        go (suc k) e f = at (ℕ_discrete i (suc k)) (λ (h : i ≤ k). go k h (λ n a c. f n a (omega arith)))
          where
            at : Dec (i ≡ suc k) → (i ≤ k → P (after k)) → P (after (suc k))
            at (yes q) g = subst (λ (n : ℕ). P (after n)) q now
            at (no n) g = next k (f k (omega arith) (omega arith)) (g (omega arith))

    beside-after : (i j t : ℕ) → i ≤ j → Uncheckpointed y (unpack y img) steps t i j → Beside (view (state_after y (unpack y img) steps i)) t → Beside (view (state_after y (unpack y img) steps j)) t
    unfolding state_after
    beside-after i j t h others = keep-on (λ k. CheckpointsTransactor y (after k) (step_at steps k) t → ⊥) (λ s. Beside (view s) t) (λ k apart. beside-stays z (well-after k) (ran k).rel t (step_ok-at steps octets k) apart) i j h others

    -- "A frozen take whose marks in state and creation, its own apart, are all of signed lives or of present lives of takes in the ready
    -- volume can't be made to fall by any parcel of that session, and that is the fact to show first." For every layout whose counts fit
    -- their fields, every trace, whatever limits its session began with, and after each step of whatever part comes next; the volume
    -- need not be ready for this.
    pub cannot-fall : (i v t : ℕ) → Grounded (state_after y (unpack y img) steps i) v t → Stands y (state_after y (unpack y img) steps i) t
    cannot-fall i v t g p k e =
        let r = ran i in
        grounded-stands z (well-after i) r.rel g p k e

    -- And it stays so until the take is signed itself, whatever else is signed meanwhile: with the volume ready, no parcel makes it fall that
    -- is sent later either.
    pub never-rolls : (i j v t : ℕ) → i ≤ j → Uncheckpointed y (unpack y img) steps t i j → ReadyGroup y (state_after y (unpack y img) steps i) v → Grounded (state_after y (unpack y img) steps i) v t
        → Stands y (state_after y (unpack y img) steps j) t
    never-rolls i j v t h others before g =
        beside-stands z (well-after j) (ran j).rel t (beside-after i j t h others (grounded-beside z (well-after i) (ran i).rel before g))

    -- For a volume that is ready, and where "the next step is no signing, it must still be ready afterwards", refused or not.
    pub still-ready : (i v : ℕ) → ReadyGroup y (state_after y (unpack y img) steps i) v → ((step_at steps i).kind ≡ sign → ⊥) → ReadyGroup y (state_after y (unpack y img) steps (suc i)) v
    unfolding state_after
    still-ready i v before other =
        let r = ran i in
        ready_on z (well-after i) r.rel (step_ok-at steps octets i) other before

    -- The same over any steps of a part, from i up to j, without a signing.
    pub still-ready-steps : (i j v : ℕ) → i ≤ j → NoSigning steps i j → ReadyGroup y (state_after y (unpack y img) steps i) v → ReadyGroup y (state_after y (unpack y img) steps j) v
    still-ready-steps i j v h others before = keep-on (λ k. (step_at steps k).kind ≡ sign → ⊥) (λ s. ReadyGroup y s v) (λ k other now. still-ready k v now other) i j h others before

module _ (y : Layout) (z : Fitting y) where
  -- what every part with F keeps, in every session, is kept by a run of such a part, refused or not
  module _ (F : (img b : List ℕ) → Type 0) (P : State → Type 0)
      (part-keeps : (img : List ℕ) → Trace y img → (b : List ℕ) → Octets b → F img b → P (state_after y (unpack y img) b 0) → P (state_after y (unpack y img) b (steps_in b))) where
    run-keeps : {img : List ℕ} → Trace y img → (list : List ℕ) → Octets list → (start end : ℕ) (lent : List ℕ) → (run_answer y img list start end lent ≡ 0 → F img (part start (end - start) list))
        → P (unpack y img) → P (unpack y (run_image y img list start end lent))
    unfolding run_image ran_image state_after
    run-keeps {img} τ list o start end lent f before = pick-view (λ (i : List ℕ). P (unpack y i)) (eqb (run_answer y img list start end lent) 0) _ img
        (λ e. rw (unpack-pack y (state_after y (unpack y img) b n) (keeps-after z (grown z τ).holds.well b octets n).packable) (part-keeps img τ b octets (f (eqb-true (run_answer y img list start end lent) 0 e)) before))
        (λ e. before)
      where
        b : List ℕ
        b = part start (end - start) list

        n : ℕ
        n = steps_in b

        octets : Octets b
        octets = octets-part start (end - start) list o

  -- so is it by a call that goes on, if the runs keep it
  pub call-keeps : (P : State → Type 0) {img after : List ℕ} {c : Call} {a : Answer} → GoesOn y img c → Performed y img c a after
      → ((list : List ℕ) (o : Octets list) (start end : ℕ) (lent : List ℕ) → c ≡ run list o start end lent → P (unpack y img) → P (unpack y (run_image y img list start end lent)))
      → P (unpack y img) → P (unpack y after)
  unfolding begin_image
  call-keeps P g (running {list} {o} {start} {end} {lent} e) keeps before = rw e.1 (keeps list o start end lent refl before)
  call-keeps P {img} g (beginning {m} q) keeps before = rw q.1 (pick-view (λ (i : List ℕ). P (unpack y i)) (eqb (begin_answer y m img) 0) _ img (λ e. absurd (g m refl (eqb-true (begin_answer y m img) 0 e))) (λ e. before))
  call-keeps P g (offering q) keeps before = before
  call-keeps P g (showing q) keeps before = before

  -- ---- calls that sign nothing

  module _ (v : ℕ) where
    part-ready : (img : List ℕ) → Trace y img → (b : List ℕ) → Octets b → NoSigning b 0 (steps_in b) → ReadyGroup y (state_after y (unpack y img) b 0) v → ReadyGroup y (state_after y (unpack y img) b (steps_in b)) v
    part-ready i σ b o f = still-ready-steps y z σ b o 0 (steps_in b) v (omega arith) f

    call-ready : {img after : List ℕ} {c : Call} {a : Answer} → Trace y img → Waits y img c → Performed y img c a after → ReadyGroup y (unpack y img) v → ReadyGroup y (unpack y after) v
    call-ready τ w p = call-keeps (λ s. ReadyGroup y s v) w.goes_on p
        (λ list o start end lent e. run-keeps (λ i b. NoSigning b 0 (steps_in b)) (λ s. ReadyGroup y s v) part-ready τ list o start end lent (w.uncheckpointed list o start end lent e))

    -- The same over any list of calls that sign nothing: runs without a signing, offers, shows and queries, and whatever is refused.
    pub still-ready-calls : {img after : List ℕ} → Trace y img → Waiting y img after → ReadyGroup y (unpack y img) v → ReadyGroup y (unpack y after) v
    still-ready-calls τ none before = before
    still-ready-calls τ (one_more k w p) before = call-ready (extended τ k) w p (still-ready-calls τ k before)

  -- ---- calls that leave take t unsigned

  module _ (t : ℕ) where
    part-beside : (img : List ℕ) → Trace y img → (b : List ℕ) → Octets b → Uncheckpointed y (unpack y img) b t 0 (steps_in b) → Beside (view (state_after y (unpack y img) b 0)) t → Beside (view (state_after y (unpack y img) b (steps_in b))) t
    part-beside i σ b o f = beside-after y z σ b o 0 (steps_in b) t (omega arith) f

    call-beside : {img after : List ℕ} {c : Call} {a : Answer} → Trace y img → Leaves y t img c → Performed y img c a after → Beside (view (unpack y img)) t → Beside (view (unpack y after)) t
    call-beside τ w p = call-keeps (λ s. Beside (view s) t) w.goes_on p
        (λ list o start end lent e. run-keeps (λ i b. Uncheckpointed y (unpack y i) b t 0 (steps_in b)) (λ s. Beside (view s) t) part-beside τ list o start end lent (w.uncheckpointed list o start end lent e))

    calls-beside : {img after : List ℕ} → Trace y img → Leaving y img t after → Beside (view (unpack y img)) t → Beside (view (unpack y after)) t
    calls-beside τ none before = before
    calls-beside τ (one_more k w p) before = call-beside (extended τ k) w p (calls-beside τ k before)

    -- And of the fact: no parcel of that session makes the take fall, until it is signed itself or the session is begun anew.
    pub never-rolls-calls : {img after : List ℕ} → Trace y img → Leaving y img t after → (v : ℕ) → ReadyGroup y (unpack y img) v → Grounded (unpack y img) v t → Stands y (unpack y after) t
    never-rolls-calls τ k v before g =
        let r = (grown z τ).holds in
        let q = (grown z (extended τ k)).holds in
        beside-stands z q.well q.rel t (calls-beside τ k (grounded-beside z r.well r.rel before g))

-- At the ledger's own layout: no hypothesis but the trace.
module _ {img : List ℕ} (τ : Trace base img) where
  pub cannot-fall-base : (steps : List ℕ) → Octets steps → (i v t : ℕ) → Grounded (state_after base (unpack base img) steps i) v t → Stands base (state_after base (unpack base img) steps i) t
  cannot-fall-base = cannot-fall base fitting-base τ

  pub never-rolls-base : (steps : List ℕ) → Octets steps → (i j v t : ℕ) → i ≤ j → Uncheckpointed base (unpack base img) steps t i j → ReadyGroup base (state_after base (unpack base img) steps i) v
      → Grounded (state_after base (unpack base img) steps i) v t → Stands base (state_after base (unpack base img) steps j) t
  never-rolls-base = never-rolls base fitting-base τ

  pub still-ready-base : (steps : List ℕ) → Octets steps → (i v : ℕ) → ReadyGroup base (state_after base (unpack base img) steps i) v
      → ((step_at steps i).kind ≡ sign → ⊥) → ReadyGroup base (state_after base (unpack base img) steps (suc i)) v
  still-ready-base = still-ready base fitting-base τ

  pub still-ready-steps-base : (steps : List ℕ) → Octets steps → (i j v : ℕ) → i ≤ j → NoSigning steps i j → ReadyGroup base (state_after base (unpack base img) steps i) v
      → ReadyGroup base (state_after base (unpack base img) steps j) v
  still-ready-steps-base = still-ready-steps base fitting-base τ

  pub never-rolls-calls-base : (t : ℕ) {after : List ℕ} → Leaving base img t after → (v : ℕ) → ReadyGroup base (unpack base img) v → Grounded (unpack base img) v t
      → Stands base (unpack base after) t
  never-rolls-calls-base t = never-rolls-calls base fitting-base t τ

  pub still-ready-calls-base : {after : List ℕ} → Waiting base img after → (v : ℕ) → ReadyGroup base (unpack base img) v → ReadyGroup base (unpack base after) v
  still-ready-calls-base k v = still-ready-calls base fitting-base v τ k
