-- What a step makes of each take in the book: it keeps its life and all its grounds, or falls, or is signed, or is opened.
use Prim.Native.Nat.{ℕ, ◌≤◌, ◌<◌}
use mathlib.Core.Bool.{true}
use mathlib.Core.Path.{◌≡◌, refl, sym, ◌∙◌, subst}
use mathlib.Core.List.Memᴰ
use mathlib.Core.List.{[], ◌++◌}
use native.Mathlib.Omega.{arith}
use lib.Dec.{eqb, leb}
use borrow.Author.Tests.{eqb-true, eqb-false, le-leb}
use Rattle.octets.specs.Numbers.{bound}
use Rattle.marks.specs.Incarnation.{Incarnation, Superseded, Checkpointed, next_incarnation, checkpoint_incarnation}
use Rattle.marks.specs.History.{initial_view, rolled_back_view, checkpointed_view}
use Rattle.marks.proofs.Order.{superseded-up, checkpointed-up, superseded-irrefl, checkpointed-irrefl, superseded-next, precedes-next, checkpointed-checkpoint, precedes-checkpoint}
use Rattle.octets.specs.Table.{updated}
use Rattle.octets.proofs.Tables.{updated-view}
use Rattle.rules.specs.Layout.{Layout}
use Rattle.rules.specs.declared.Step.{Step}
use Rattle.rules.specs.Step.{root, letter, receive, new, send, read, write, freeze, finish, fall, fail, lose, sign}
use Rattle.rules.specs.Refusals.{named}
use Rattle.rules.proofs.Keep.Accepted.{kind-known}
use Rattle.session.specs.Provenance.{Status, unused, annihilated, Live, is-idle, is-busy, Holder, WaitingMessage, Provenance, find}
use Rattle.session.specs.Grounds.{Ground, in-state, in-creation, Equal}
use Rattle.session.specs.Steps.{is_nil, anew, rolled_back_holder, reads, writes, freezes, finishes, rolls_back_or_finishes, rolls_back_or_stays, acted, is_dropped, is_rolled_back, received, receives, opens_root, opens_child, applied, checkpointed_at, provenance_refusal, ProvenanceStep, refuses, applies, signing, not-ready}
use Rattle.session.proofs.Model.{Ledger}
use Rattle.session.proofs.Tables.{pick-view, and-of}
use Rattle.session.proofs.Relation.{live-used, gone-used, Rel}
use Rattle.session.proofs.Sign.{live-there}
use Rattle.session.proofs.Accepted.{provenance-accepted, acting-live, receiving-live, named_live}

-- ---- one take, h before and k after

-- it keeps its life, and whatever it has in state and creation
pub record Keeps (h k : Holder) : Type 0 where
  pub live : Live k.status
  pub incarnation : k.history.incarnation ≡ h.history.incarnation
  pub grounds : (u : ℕ) (a : Incarnation) → Ground h u a → Ground k u a

-- S stands for why it is signed
pub data Turn (S : Type 0) (t : ℕ) (h k : Holder) : Type 0 where
  stays : k ≡ h → Turn S t h k
  works : Live h.status → Keeps h k → Turn S t h k
  rolls-back : Live h.status → k ≡ rolled_back_holder t h → Turn S t h k
  checkpoints : S → Live h.status → k ≡ anew t (checkpointed_view h.history) → Turn S t h k
  opens : h.status ≡ unused → Turn S t h k

turn-map : {S R : Type 0} {t : ℕ} {h k : Holder} → (S → R) → Turn S t h k → Turn R t h k
turn-map f (stays e) = stays e
turn-map f (works w g) = works w g
turn-map f (rolls-back w e) = rolls-back w e
turn-map f (checkpoints s w e) = checkpoints (f s) w e
turn-map f (opens e) = opens e

module _ (t : ℕ) (h : Holder) (live : Live h.status) where
  keeps_same : {k : Holder} → Live k.status → k.history.incarnation ≡ h.history.incarnation → k.state ≡ h.state → k.creation ≡ h.creation → Turn ⊥ t h k
  keeps_same {k} l i e f = works live (record { live = l; incarnation = i; grounds = go })
    where
      go : (u : ℕ) (a : Incarnation) → Ground h u a → Ground k u a
      go u a (in-state x) = in-state (rw e x)
      go u a (in-creation x) = in-creation (rw f x)

  written : (k : Holder) → k ≡ record { status = h.status; history = h.history; state = h.behaviour ++ h.state; creation = h.creation; behaviour = h.behaviour } → Turn ⊥ t h k
  written k e = subst (Turn ⊥ t h) (sym e) (works live (record { live = live; incarnation = refl; grounds = go }))
    where
      go : (u : ℕ) (a : Incarnation) → Ground h u a → Ground (record { status = h.status; history = h.history; state = h.behaviour ++ h.state; creation = h.creation; behaviour = h.behaviour }) u a
      go u a (in-state x) = in-state (Memᴰ.append_right h.behaviour x)
      go u a (in-creation x) = in-creation x

  -- kind k of 5 to 10
  acted-turn : (k : ℕ) → Turn ⊥ t h (acted k t h)
  unfolding acted reads writes freezes finishes rolls_back_or_finishes rolls_back_or_stays
  acted-turn k =
      pick-view (Turn ⊥ t h) (eqb k read) _ _ (λ e. keeps_same live refl refl refl) λ e0.
      pick-view (Turn ⊥ t h) (eqb k write) _ _ (λ e. pick-view (Turn ⊥ t h) h.history.stable _ _ (λ f. stays refl) (λ f. written _ refl)) λ e1.
      pick-view (Turn ⊥ t h) (eqb k freeze) _ _ (λ e. keeps_same live refl refl refl) λ e2.
      pick-view (Turn ⊥ t h) (eqb k finish) _ _ (λ e. keeps_same is-idle refl refl refl) λ e3.
      pick-view (Turn ⊥ t h) (eqb k fall) _ _ (λ e. pick-view (Turn ⊥ t h) h.history.stable _ _ (λ f. keeps_same is-idle refl refl refl) (λ f. rolls-back live refl)) λ e4.
      pick-view (Turn ⊥ t h) h.history.stable _ _ (λ f. stays refl) (λ f. rolls-back live refl)

  received-turn : (q : WaitingMessage) → Turn ⊥ t h (received t h q)
  unfolding received
  received-turn q =
      pick-view (Turn ⊥ t h) (is_dropped h q) _ _ (λ e. stays refl) λ e0.
      pick-view (Turn ⊥ t h) (is_rolled_back h q) _ _ (λ e. rolls-back live refl) (λ e. keeps_same is-busy refl refl refl)

-- ---- every step

module _ (l : Ledger) (b : Provenance) (r : Rel l b) (y : Layout) (p : Step) where
  abbrev H : ℕ → Holder
  H = b.holders

  -- take u is as Turn says in the table K
  abbrev To : ℕ → Holder → Type 0
  To u k = Turn ⊥ u (H u) k

  put : (t : ℕ) (h : Holder) → Turn ⊥ t (H t) h → (u : ℕ) → Turn ⊥ u (H u) (updated H t h u)
  put t h k = updated-view To H t h k (λ u n. stays refl)

  opened : (K : ℕ → Holder) → ((u : ℕ) → Turn ⊥ u (H u) (K u)) → (h : Holder) → (u : ℕ) → Turn ⊥ u (H u) (updated K b.opened h u)
  opened K f h = updated-view To K b.opened h (opens (r.fresh b.opened (omega arith))) (λ u n. f u)

  applied-turn : provenance_refusal y b p ≡ 0 → (p.kind ≡ sign → ⊥) → (u : ℕ) → Turn ⊥ u (H u) ((applied b p).holders u)
  unfolding applied opens_root opens_child receives
  applied-turn zero other =
      let t = p.transactor in let k = p.kind in let h = H t in
      let high = kind-known (provenance-accepted l b r y p zero) in
      let P : Provenance → Type 0 = λ c. (u : ℕ) → Turn ⊥ u (H u) (c.holders u) in
      let live : new ≤ k → k ≤ fail → Live h.status = λ f g. acting-live l b r y p zero (and-of (leb new k) (leb k fail) (le-leb new k f) (le-leb k fail g)) in
      pick-view P (eqb k root) _ _ (λ e. opened H (λ u. stays refl) _) λ e0.
      pick-view P (eqb k letter) _ _ (λ e u. stays refl) λ e1.
      pick-view P (eqb k receive) _ _ (λ e.
      let q = find p.message b.messages in
      put q.addressee _ (received-turn q.addressee (H q.addressee) (receiving-live l b r y p zero (eqb-true k receive e)) q)) λ e2.
      pick-view P (eqb k new) _ _ (λ e.
      let i = eqb-true k new e in
      let w = live (omega arith) (omega arith) in
      opened (updated H t _) (put t _ (keeps_same t h w w refl refl refl)) _) λ e3.
      pick-view P (eqb k send) _ _ (λ e u. stays refl) λ e4.
      pick-view P (eqb k lose) _ _ (λ e u. stays refl) λ e5.
      let n0 = eqb-false k root e0 in let n1 = eqb-false k letter e1 in let n2 = eqb-false k receive e2 in let n5 = eqb-false k lose e5 in
      let w = live (omega arith) (omega arith) in
      put t _ (acted-turn t h w k)

  checkpointed-turn : (g : ℕ) → ((t : ℕ) → named g t ≡ true → Live (b.holders t).status) → (u : ℕ) → Turn (named g u ≡ true) u (H u) (checkpointed_at b g u)
  unfolding checkpointed_at
  checkpointed-turn g lives u = pick-view (Turn (named g u ≡ true) u (H u)) (named g u) _ _ (λ e. checkpoints e (lives u e) refl) (λ e. stays refl)

  -- why take u is signed: this step signs a volume with it
  pub record SignedBy (u : ℕ) : Type 0 where
    pub names : named p.message u ≡ true
    pub zero : provenance_refusal y b p ≡ 0
    pub kind : p.kind ≡ sign
    pub same : Equal b p.message

  pub turn-signs : p.message < bound 2 → {c : Provenance} → ProvenanceStep y b p c → (u : ℕ) → Turn (SignedBy u) u (b.holders u) (c.holders u)
  turn-signs bits (refuses z) u = stays refl
  turn-signs bits (applies z n) u = turn-map (λ k. absurd k) (applied-turn z n u)
  turn-signs bits (signing z k e) u = turn-map (λ n. record { names = n; zero = z; kind = k; same = e }) (checkpointed-turn p.message (named_live l b r y p z k bits) u)
  turn-signs bits (not-ready z k e) u = stays refl

  pub turn : p.message < bound 2 → {c : Provenance} → ProvenanceStep y b p c → (u : ℕ) → Turn Unit u (b.holders u) (c.holders u)
  turn bits k u = turn-map (λ s. tt) (turn-signs bits k u)

-- ---- any number of steps

pub data Turns (t : ℕ) (h : Holder) : Holder → Type 0 where
  none : Turns t h h
  more : {k j : Holder} → Turns t h k → Turn Unit t k j → Turns t h j

-- ---- a take that is live with the same life has kept it all along

-- a later life than a
data Later (a c : Incarnation) : Type 0 where
  later-superseded : Superseded a c → Later a c
  later-checkpointed : Checkpointed a c → Later a c

data Since (h k : Holder) : Type 0 where
  still : Keeps h k → Since h k
  moved : Live k.status → Later h.history.incarnation k.history.incarnation → Since h k
  dead : k.status ≡ annihilated → Since h k

pub dead-live : {s : Status} → s ≡ annihilated → Live s → ⊥
dead-live e k = live-there k e

later-next : {a c : Incarnation} → Later a c → Later a (next_incarnation c)
later-next {a} {c} (later-superseded s) = later-superseded (superseded-up s (precedes-next c))
later-next {a} {c} (later-checkpointed s) = later-checkpointed (checkpointed-up s (precedes-next c))

later-checkpoint : {a c : Incarnation} → Later a c → Later a (checkpoint_incarnation c)
later-checkpoint {a} {c} (later-superseded s) = later-superseded (superseded-up s (precedes-checkpoint c))
later-checkpoint {a} {c} (later-checkpointed s) = later-checkpointed (checkpointed-up s (precedes-checkpoint c))

later-irrefl : {a : Incarnation} → Later a a → ⊥
later-irrefl (later-superseded s) = superseded-irrefl s
later-irrefl (later-checkpointed s) = checkpointed-irrefl s

since-refl : {h : Holder} → Live h.status → Since h h
since-refl k = still (record { live = k; incarnation = refl; grounds = λ u a g. g })

-- after a fall: gone, or moved where the next life is later
rolled : (P : Holder → Type 0) (t : ℕ) (h : Holder) → P (record { status = annihilated; history = initial_view; state = []; creation = []; behaviour = [] }) → P (anew t (rolled_back_view h.history)) → P (rolled_back_holder t h)
unfolding rolled_back_holder
rolled P t h p q = pick-view P (is_nil h.history.incarnation.checkpoints) _ _ (λ e. p) (λ e. q)

since-on : {t : ℕ} {h k j : Holder} → Since h k → Turn Unit t k j → Since h j
since-on {t} {h} {k} {j} s (stays e) = subst (Since h) (sym e) s
since-on {t} {h} {k} {j} (still s) (works w g) = still (record { live = g.live; incarnation = g.incarnation ∙ s.incarnation; grounds = λ u a x. g.grounds u a (s.grounds u a x) })
since-on {t} {h} {k} {j} (moved l s) (works w g) = moved g.live (subst (Later h.history.incarnation) (sym g.incarnation) s)
since-on {t} {h} {k} {j} (dead e) (works w g) = absurd (dead-live e w)
since-on {t} {h} {k} {j} (still s) (rolls-back w e) = subst (Since h) (sym e)
    (rolled (Since h) t k (dead refl) (moved is-idle (subst (λ (a : Incarnation). Later a (next_incarnation k.history.incarnation)) s.incarnation (later-superseded (superseded-next k.history.incarnation)))))
since-on {t} {h} {k} {j} (moved l s) (rolls-back w e) = subst (Since h) (sym e) (rolled (Since h) t k (dead refl) (moved is-idle (later-next s)))
since-on {t} {h} {k} {j} (dead d) (rolls-back w e) = absurd (dead-live d w)
since-on {t} {h} {k} {j} (still s) (checkpoints i w e) = subst (Since h) (sym e)
    (moved is-idle (subst (λ (a : Incarnation). Later a (checkpoint_incarnation k.history.incarnation)) s.incarnation (later-checkpointed (checkpointed-checkpoint k.history.incarnation))))
since-on {t} {h} {k} {j} (moved l s) (checkpoints i w e) = subst (Since h) (sym e) (moved is-idle (later-checkpoint s))
since-on {t} {h} {k} {j} (dead d) (checkpoints i w e) = absurd (dead-live d w)
since-on {t} {h} {k} {j} (still s) (opens e) = absurd (live-used s.live e)
since-on {t} {h} {k} {j} (moved l s) (opens e) = absurd (live-used l e)
since-on {t} {h} {k} {j} (dead d) (opens e) = absurd (gone-used (sym d ∙ e))

since-all : {t : ℕ} {h k : Holder} → Live h.status → Turns t h k → Since h k
since-all w none = since-refl w
since-all w (more s o) = since-on (since-all w s) o

-- After any steps a take that is live with the life it had has kept its grounds.
pub kept-all : {t : ℕ} {h k : Holder} → Live h.status → Turns t h k → Live k.status → k.history.incarnation ≡ h.history.incarnation → Keeps h k
kept-all {t} {h} {k} w s l e = go (since-all w s)
  where
    go : Since h k → Keeps h k
    go (still g) = g
    go (moved w m) = absurd (later-irrefl (subst (Later h.history.incarnation) e m))
    go (dead d) = absurd (dead-live d l)

-- ---- a life that is withdrawn stays so

-- life a of the take is past: the take vanished, or fell from it or before a later signing
pub data Past (h : Holder) (a : Incarnation) : Type 0 where
  passed : Live h.status → Superseded a h.history.incarnation → Past h a
  vanished : h.status ≡ annihilated → Past h a

pub past-on : {S : Type 0} {t : ℕ} {h k : Holder} {a : Incarnation} → Past h a → Turn S t h k → Past k a
past-on {S} {t} {h} {k} {a} s (stays e) = subst (λ (j : Holder). Past j a) (sym e) s
past-on {S} {t} {h} {k} {a} (passed l s) (works w g) = passed g.live (subst (Superseded a) (sym g.incarnation) s)
past-on {S} {t} {h} {k} {a} (passed l s) (rolls-back w e) = subst (λ (j : Holder). Past j a) (sym e)
    (rolled (λ (j : Holder). Past j a) t h (vanished refl) (passed is-idle (superseded-up s (precedes-next h.history.incarnation))))
past-on {S} {t} {h} {k} {a} (passed l s) (checkpoints i w e) = subst (λ (j : Holder). Past j a) (sym e) (passed is-idle (superseded-up s (precedes-checkpoint h.history.incarnation)))
past-on {S} {t} {h} {k} {a} (passed l s) (opens e) = absurd (live-used l e)
past-on {S} {t} {h} {k} {a} (vanished d) (works w g) = absurd (dead-live d w)
past-on {S} {t} {h} {k} {a} (vanished d) (rolls-back w e) = absurd (dead-live d w)
past-on {S} {t} {h} {k} {a} (vanished d) (checkpoints i w e) = absurd (dead-live d w)
past-on {S} {t} {h} {k} {a} (vanished d) (opens e) = absurd (gone-used (sym d ∙ e))

pub past_all : {t : ℕ} {h k : Holder} {a : Incarnation} → Past h a → Turns t h k → Past k a
past_all p none = p
past_all p (more s o) = past-on (past_all p s) o

-- a take that falls leaves its life behind
pub past-fall : (t : ℕ) (h : Holder) → Past (rolled_back_holder t h) h.history.incarnation
past-fall t h = rolled (λ (j : Holder). Past j h.history.incarnation) t h (vanished refl) (passed is-idle (superseded-next h.history.incarnation))

-- ---- a take that is not signed at its life: it keeps it, or it is past

pub data Fate (h k : Holder) : Type 0 where
  kept : Keeps h k → Fate h k
  lost : Past k h.history.incarnation → Fate h k

pub fate-on : {S : Type 0} {t : ℕ} {h k j : Holder} → Fate h k → Turn S t k j → (S → Keeps h k → ⊥) → Fate h j
fate-on {S} {t} {h} {k} {j} (lost p) o n = lost (past-on p o)
fate-on {S} {t} {h} {k} {j} (kept s) (stays e) n = subst (Fate h) (sym e) (kept s)
fate-on {S} {t} {h} {k} {j} (kept s) (works w g) n = kept (record { live = g.live; incarnation = g.incarnation ∙ s.incarnation; grounds = λ u a x. g.grounds u a (s.grounds u a x) })
fate-on {S} {t} {h} {k} {j} (kept s) (rolls-back w e) n = lost (subst (λ (i : Holder). Past i h.history.incarnation) (sym e) (subst (Past (rolled_back_holder t k)) s.incarnation (past-fall t k)))
fate-on {S} {t} {h} {k} {j} (kept s) (checkpoints i w e) n = absurd (n i s)
fate-on {S} {t} {h} {k} {j} (kept s) (opens e) n = absurd (live-used s.live e)
