-- Why a volume can't be signed, in a session: what each answer means in the book.
use Prim.Native.Nat.{ℕ, ◌^◌, ◌<◌}
use mathlib.Core.Bool.{true, not}
use mathlib.Core.List.{List}
use mathlib.Core.Path.{◌≡◌, refl, ap, sym, ◌∙◌, subst}
use native.Mathlib.Omega.{arith}
use lib.Dec.{leb}
use borrow.Author.Tests.{eq-eqb, leb-false}
use Rattle.std.specs.Prelude.{Option, Some, None}
use Rattle.octets.specs.Numbers.{bound}
use Rattle.octets.proofs.Tests.{pick-zero}
use Rattle.marks.specs.declared.History.{History}
use Rattle.marks.specs.Incarnation.{Checkpointed}
use Rattle.marks.specs.History.{HistoryView, incarnation_of}
use Rattle.marks.proofs.Order.{checkpointed-irrefl}
use Rattle.maps.proofs.View.{view-held}
use Rattle.rules.specs.declared.Obstacle.{Obstacle}
use Rattle.rules.specs.declared.Obstacle.TheVariants.{Unstable, Outside}
use Rattle.rules.specs.declared.Obstacle.TheVariants as answer
use Rattle.rules.specs.Layout.{Layout, Fitting, base}
use Rattle.rules.specs.State.{State, transactor_at, own_history, live}
use Rattle.rules.specs.Refusals.{group_bits, named}
use Rattle.rules.specs.Rules.{refusal}
use Rattle.rules.specs.Form.{well_formed}
use Rattle.rules.specs.Calls.{wrong_length}
use Rattle.rules.specs.Groups.{signing, signing_refusal}
use Rattle.rules.specs.Obstacle.{obstacle_of, obstacle_refusal, obstacle_answer, StandsIn, WithdrawnMark, Obstructs, is-unstable, is-outside, is-withdrawn}
use Rattle.rules.specs.Obstacle as obstacle
use Rattle.rules.specs.Internal.Well.{WellFormed}
use Rattle.rules.proofs.Keep.Step.{fitting-base}
use Rattle.rules.proofs.Groups.Obstacles.{obstructs, nothing-exactly}
use Rattle.session.specs.Provenance.{Live, In, Provenance}
use Rattle.session.specs.Grounds.{from_start, in-state, in-creation, RestsOn, SupersededOrAnnihilated, neither}
use Rattle.session.specs.Waiting.{ReadyGroup}
use Rattle.session.specs.Fed.{ProvenanceOf}
use Rattle.session.specs.Trace.{Trace, calls_of}
use Rattle.session.specs.Point.{Point, at-end}
use Rattle.session.specs.Withdrawal.{Further, SameIncarnation, Doomed}
use Rattle.session.specs.Meanings.{UnstableMeans, OutsideMeans, WithdrawnMeans, ObstacleMeans, means-equal, means-not-stable, means-outside, means-withdrawn}
use Rattle.session.proofs.Model.{view}
use Rattle.session.proofs.Sets.{cell-has}
use Rattle.session.proofs.Relation.{Rel, own-history}
use Rattle.session.proofs.ViewState.{own_view}
use Rattle.session.proofs.ViewRules.{live_test}
use Rattle.session.proofs.Waiting.{signs-exactly}
use Rattle.session.proofs.Reached.{related, well}
use Rattle.session.proofs.Withdrawal.{never-ready}

module _ {y : Layout} {s : State} (w : WellFormed y s) {b : Provenance} (r : Rel (view s) b) where
  pub life-is : (u : ℕ) → incarnation_of (own_history u (transactor_at s u)) ≡ (b.holders u).history.incarnation
  unfolding view
  life-is u = ap (λ (m : HistoryView). m.incarnation) (sym (own_view w u) ∙ own-history (r.holders u))

  pub live_to : (u : ℕ) → live (transactor_at s u) ≡ true → Live (b.holders u).status
  unfolding view
  live_to u e = rw (r.holders u).status at ((live_test (transactor_at s u).status).0 e)

  pub live_of : (u : ℕ) → Live (b.holders u).status → live (transactor_at s u) ≡ true
  unfolding view
  live_of u k = (live_test (transactor_at s u).status).1 (rw (r.holders u).status k)

  -- a mark of a map: its take rests on that life
  pub stands-rests : {t u : ℕ} {h : History} → StandsIn s t u h → RestsOn b t u (incarnation_of h)
  unfolding view
  stands-rests {t} {u} {h} (obstacle.in-state k e) = from_start (in-state (subst (λ (x : History). In u (incarnation_of x) (b.holders t).state) (sym e) (cell-has (view-held (transactor_at s t).state u k) ((r.holders t).state u)).has))
  stands-rests {t} {u} {h} (obstacle.in-creation k e) = from_start (in-creation (subst (λ (x : History). In u (incarnation_of x) (b.holders t).creation) (sym e) (cell-has (view-held (transactor_at s t).creation u k) ((r.holders t).creation u)).has))

  pub withdrawn-mark : {u : ℕ} {h : History} → WithdrawnMark s u h → SupersededOrAnnihilated b u (incarnation_of h)
  withdrawn-mark {u} {h} m = neither
      (λ p. m.not-present (live_of u p.live) (p.is ∙ sym (life-is u)))
      (λ c. m.not-checkpointed (live_of u c.live) (subst (Checkpointed (incarnation_of h)) (sym (life-is u)) c.is))

-- ---- what each answer means in the book

module _ {y : Layout} (z : Fitting y) {img : List ℕ} {τ : Trace y img} {s : State} {b : Provenance} (k : Point y img τ s b) where
  answered : (v : ℕ) (o : Option Obstacle) → obstacle_of y s v ≡ o → Obstructs y s v o
  answered v o e = subst (Obstructs y s v) e (obstructs y s v)

  pub unstable-means : (v t : ℕ) → obstacle_of y s v ≡ Some (Unstable t) → UnstableMeans b v t
  unfolding view
  unstable-means v t e = go (answered v (Some (Unstable t)) e)
    where
      go : Obstructs y s v (Some (Unstable t)) → UnstableMeans b v t
      go (is-unstable low n q) = record { names = n; unstable = sym (ap (λ (m : HistoryView). m.stable) (own-history ((related z k).holders t))) ∙ ap (λ (m : HistoryView). m.stable) (own_view (well z k) t) ∙ q }

  pub outside-means : (v t u : ℕ) → obstacle_of y s v ≡ Some (Outside t u) → OutsideMeans b v t u
  outside-means v t u e = go (answered v (Some (Outside t u)) e)
    where
      go : Obstructs y s v (Some (Outside t u)) → OutsideMeans b v t u
      go (is-outside {h = h} low low-u n stands l q m) = record {
        names = n;
        unnamed = m;
        present = record { live = live_to (well z k) (related z k) u l; is = refl };
        rests = subst (RestsOn b t u) (q ∙ life-is (well z k) (related z k) u) (stands-rests (well z k) (related z k) stands);
        uncheckpointed = λ c. checkpointed-irrefl c.is;
      }

  pub withdrawn-means : (v t u : ℕ) → obstacle_of y s v ≡ Some (answer.SupersededOrAnnihilated t u) → WithdrawnMeans b v t u
  withdrawn-means v t u e = go (answered v (Some (answer.SupersededOrAnnihilated t u)) e)
    where
      go : Obstructs y s v (Some (answer.SupersededOrAnnihilated t u)) → WithdrawnMeans b v t u
      go (is-withdrawn {h = h} low low-u n stands m) = record {
        names = n;
        incarnation = incarnation_of h;
        rests = stands-rests (well z k) (related z k) stands;
        withdrawn = withdrawn-mark (well z k) (related z k) m;
      }

  -- And then no volume with take t can be signed, after whatever steps, signings included, as long as take t keeps its present life.
  pub withdrawn-for-good : (v t u : ℕ) → obstacle_of y s v ≡ Some (answer.SupersededOrAnnihilated t u) → {after : State} → Further y s after → SameIncarnation s after t → (g : ℕ) → named g t ≡ true → ReadyGroup y after g → ⊥
  withdrawn-for-good v t u e o same =
      let m = withdrawn-means v t u e in
      never-ready z (well z k) (related z k) m.rests m.withdrawn o same

  -- What the answer means, of a volume whose signing is not refused.
  pub obstacle-means : (v : ℕ) → v < bound 2 → refusal y s (signing v) ≡ 0 → ObstacleMeans b v (obstacle_of y s v)
  obstacle-means v bits zero = go (obstacle_of y s v) refl
    where
      go : (o : Option Obstacle) → obstacle_of y s v ≡ o → ObstacleMeans b v o
      go None e = means-equal ((signs-exactly z (well z k) (related z k) v bits).0 ((nothing-exactly y s v).0 (zero, e))).same
      go (Some (Unstable t)) e = means-not-stable (unstable-means v t e)
      go (Some (Outside t u)) e = means-outside (outside-means v t u e)
      go (Some (answer.SupersededOrAnnihilated t u)) e = means-withdrawn (withdrawn-means v t u e)

-- Between two calls, and not refused: what the call answers.
pub obstacle-answered : {y : Layout} (z : Fitting y) {img : List ℕ} (τ : Trace y img) {b : Provenance} → ProvenanceOf y (calls_of τ) b → (v : ℕ) → obstacle_refusal y img v ≡ 0
    → ObstacleMeans b v (obstacle_answer y img v)
unfolding obstacle_answer obstacle_refusal signing_refusal bound
obstacle-answered {y} z {img} τ f v e =
    let p = pick-zero (wrong_length y img) 16 _ (omega arith) e in
    let q = pick-zero (not (well_formed y img)) 19 _ (omega arith) p.1 in
    let i = pick-zero (leb (2 ^ group_bits) v) 21 _ (omega arith) q.1 in
    rw (eq-eqb (obstacle_refusal y img v) 0 e) (obstacle-means z (at-end {τ = τ} f) v (leb-false (2 ^ group_bits) v i.0) i.1)

pub obstacle-answered-base : {img : List ℕ} (τ : Trace base img) {b : Provenance} → ProvenanceOf base (calls_of τ) b → (v : ℕ) → obstacle_refusal base img v ≡ 0
    → ObstacleMeans b v (obstacle_answer base img v)
obstacle-answered-base = obstacle-answered fitting-base

-- At the ledger's own layout: no hypothesis but the trace.
module _ {img : List ℕ} {τ : Trace base img} {s : State} {b : Provenance} (k : Point base img τ s b) where
  pub unstable-means-base : (v t : ℕ) → obstacle_of base s v ≡ Some (Unstable t) → UnstableMeans b v t
  unstable-means-base = unstable-means fitting-base k

  pub outside-means-base : (v t u : ℕ) → obstacle_of base s v ≡ Some (Outside t u) → OutsideMeans b v t u
  outside-means-base = outside-means fitting-base k

  pub withdrawn-means-base : (v t u : ℕ) → obstacle_of base s v ≡ Some (answer.SupersededOrAnnihilated t u) → WithdrawnMeans b v t u
  withdrawn-means-base = withdrawn-means fitting-base k

  pub withdrawn-for-good-base : (v t u : ℕ) → obstacle_of base s v ≡ Some (answer.SupersededOrAnnihilated t u) → Doomed base s t
  withdrawn-for-good-base v t u e after o same = withdrawn-for-good fitting-base k v t u e o same
