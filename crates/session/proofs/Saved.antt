-- The saved text of a take is the text that it had just before it was signed last (specs/Saved); a take that falls back has it.
use Prim.Native.Nat.{ℕ, zero, suc, ◌-◌, ◌≤◌, ◌<◌}
use mathlib.Core.Bool.{Bool, true, false}
use mathlib.Core.Path.{◌≡◌, refl, ap, sym, ◌∙◌, subst}
use mathlib.Core.List.{List, [], ◌∷◌}
use mathlib.Core.Logic.{⊎_elim}
use native.Mathlib.Decide.{ℕ_discrete}
use native.Mathlib.Omega.{arith}
use lib.ListN.{get_or, set, replicate, length-replicate, get_or-replicate, get_or-eq_default}
use lib.Dec.{eqb}
use borrow.Author.Tests.{eq-eqb, ne_eqb, eqb-true}
use Rattle.octets.specs.Bytes.{pick, ◌and◌, part, tabulate, Octets}
use Rattle.octets.proofs.Put.{octets-part}
use Rattle.octets.proofs.Chunks.{sides, length-tabulate, get_d_tabulate}
use Rattle.rules.specs.Layout.{Layout, Limits, in_range, base, Fitting}
use Rattle.rules.specs.Status.{unused}
use Rattle.rules.specs.State.{fresh, Transactor, State, Message, bare, no_transactor, transactor_at, message_at, own_history, with_transactor, with_opened, with_message, without_message, place_of}
use Rattle.rules.specs.declared.Step.{Step}
use Rattle.rules.specs.Step.{step_at, root, letter, receive, new, send, read, write, freeze, finish, fall, lose, sign, done}
use Rattle.rules.specs.Refusals.{named}
use Rattle.rules.specs.Rules.{Effect, Result, rollback, local_by, read_by, write_by, freeze_by, finish_by, fall_by, fail_by, receive_by, message_superseded, receiver_superseded, group_ready, checkpoint_by, checkpoint_at, checkpoint_group, apply_root, apply_letter, apply_receive, apply_new, apply_send, apply_local, apply_lose, apply_sign, apply, answer, refusal, step_of}
use Rattle.rules.specs.Rules as rules
use Rattle.rules.specs.Pack.{pack, unpack}
use Rattle.rules.specs.Calls.{begin_answer, fresh_image, begin_image, state_after, steps_in, run_answer, ran_image, run_image}
use Rattle.rules.specs.Internal.Well.{WellFormed, TransactorFormed}
use Rattle.rules.proofs.Calls.Begin.{begin-accepted}
use Rattle.rules.proofs.Pack.RoundTrip.{unpack-pack}
use Rattle.rules.proofs.Pack.Fresh.{pack-fresh}
use Rattle.rules.proofs.Keep.State.{well-fresh}
use Rattle.rules.proofs.Keep.Step.{keeps-after, fitting-base}
use Rattle.session.specs.Fed.{Call}
use Rattle.session.specs.Trace.{Answer, Performed, beginning, running, offering, showing, Trace, opened, called}
use Rattle.session.specs.Provenance.{Provenance}
use Rattle.session.specs.Point as session
use Rattle.session.specs.Point.{StepIn, last-run, earlier-run, Point}
use Rattle.session.specs.Withdrawal.{RolledBackIn}
use Rattle.session.specs.Saved.{signs_take, last_signed, signed_over, signed_text, SignedAt, at-end, at-step, earlier}
use Rattle.session.proofs.Points.{step-taken}
use Rattle.session.proofs.Falling.{rolled}
use Rattle.session.proofs.Withdrawals.{withdraws}
use Rattle.session.proofs.Tables.{pick-view}
use Rattle.session.proofs.Grown.{grown}
use Rattle.session.proofs.ViewState.{no-transactor, at-transactor}

-- ---- lists of takes

put-saved : (l : List Transactor) (u : ℕ) (x : Transactor) → x.saved ≡ (get_or l u no_transactor).saved → (t : ℕ) → (get_or (set l u x) t no_transactor).saved ≡ (get_or l t no_transactor).saved
put-saved [] u x e t = refl
put-saved (z ∷ l) zero x e zero = e
put-saved (z ∷ l) zero x e (suc t) = refl
put-saved (z ∷ l) (suc u) x e zero = refl
put-saved (z ∷ l) (suc u) x e (suc t) = put-saved l u x e t

with-saved : (s : State) (u : ℕ) (x : Transactor) → x.saved ≡ (transactor_at s u).saved → (t : ℕ) → (transactor_at (with_transactor s u x) t).saved ≡ (transactor_at s t).saved
unfolding transactor_at with_transactor
with-saved s u x e t = put-saved s.transactors u x e t

opened-saved : (s : State) (x : Transactor) → x.saved ≡ (transactor_at s s.opened).saved → (t : ℕ) → (transactor_at (rules.opened s x) t).saved ≡ (transactor_at s t).saved
unfolding rules.opened with_opened transactor_at with_transactor
opened-saved s x e t = put-saved s.transactors s.opened x e t

child-saved : (s : State) (u : ℕ) (x z : Transactor) → x.saved ≡ (transactor_at s u).saved → z.saved ≡ (transactor_at s s.opened).saved
    → (t : ℕ) → (transactor_at (rules.opened (with_transactor s u x) z) t).saved ≡ (transactor_at s t).saved
unfolding rules.opened with_opened transactor_at with_transactor
child-saved s u x z e f t =
    put-saved (set s.transactors u x) s.opened z (f ∙ sym (put-saved s.transactors u x e s.opened)) t ∙ put-saved s.transactors u x e t

-- ---- one take

module _ (y : Layout) (t : ℕ) (x : Transactor) (never : (own_history t x).count ≡ 0 → x.saved ≡ 0) where
  abbrev Keeps : Effect → Type 0
  Keeps e = e.transactor.saved ≡ x.saved

  rollback-saved : Keeps (rollback y t x)
  unfolding rollback
  rollback-saved = pick-view Keeps (eqb (own_history t x).count 0) _ _ (λ e. sym (never (eqb-true (own_history t x).count 0 e))) (λ e. refl)

  -- a take that falls has its saved text; one that vanishes had none
  rollback-value : (rollback y t x).transactor.value ≡ x.saved
  unfolding rollback
  rollback-value = pick-view (λ (e : Effect). e.transactor.value ≡ x.saved) (eqb (own_history t x).count 0) _ _ (λ e. sym (never (eqb-true (own_history t x).count 0 e))) (λ e. refl)

  local-saved : (k v : ℕ) → Keeps (local_by y k t v x)
  unfolding local_by read_by write_by freeze_by finish_by fall_by fail_by
  local-saved k v =
      let held : Bool = (own_history t x).stable in
      pick-view Keeps (eqb k read) _ _ (λ e. refl) λ e0.
      pick-view Keeps (eqb k write) _ _ (λ e. pick-view Keeps held _ _ (λ f. refl) (λ f. refl)) λ e1.
      pick-view Keeps (eqb k freeze) _ _ (λ e. refl) λ e2.
      pick-view Keeps (eqb k finish) _ _ (λ e. refl) λ e3.
      pick-view Keeps (eqb k fall) _ _ (λ e. pick-view Keeps held _ _ (λ f. refl) (λ f. rollback-saved)) λ e4.
      pick-view Keeps held _ _ (λ f. refl) (λ f. rollback-saved)

  receive-saved : (q : Message) → Keeps (receive_by y t x q)
  unfolding receive_by
  receive-saved q =
      pick-view Keeps (message_superseded y x q) _ _ (λ e. refl) λ e0.
      pick-view Keeps (receiver_superseded y x q) _ _ (λ e. rollback-saved) (λ e. refl)

refused-keeps : (a c d : Bool) (v w : ℕ) → c ≡ false → w ≡ pick (a and (c and d)) v w
refused-keeps true c d v w e = rw e
refused-keeps false c d v w e = refl

-- ---- one step

module _ {y : Layout} {s : State} (well : WellFormed y s) where
  -- a take never signed has no saved text
  never-saved : (t : ℕ) → (own_history t (transactor_at s t)).count ≡ 0 → (transactor_at s t).saved ≡ 0
  never-saved = at-transactor well (λ t x. (own_history t x).count ≡ 0 → x.saved ≡ 0) (λ t h. go (well.transactors t h)) (λ t e. refl)
    where
      go : {c o t : ℕ} {x : Transactor} → TransactorFormed y c o t x → (own_history t x).count ≡ 0 → x.saved ≡ 0
      go (TransactorFormed.not_opened h) e = refl
      go (TransactorFormed.gone h) e = refl
      go (TransactorFormed.alive h a) e = a.saved e

  -- nor has one that is not opened
  unopened-saved : (t : ℕ) → s.opened ≤ t → (transactor_at s t).saved ≡ 0
  unopened-saved = at-transactor well (λ t x. s.opened ≤ t → x.saved ≡ 0) (λ t h. go (well.transactors t h)) (λ t e. refl)
    where
      go : {c t : ℕ} {x : Transactor} → TransactorFormed y c s.opened t x → s.opened ≤ t → x.saved ≡ 0
      go (TransactorFormed.not_opened h) e = refl
      go (TransactorFormed.gone h) e = refl
      go (TransactorFormed.alive h a) e = absurd (omega arith)

  group-saved : (g t : ℕ) → (transactor_at (checkpoint_group y s g) t).saved ≡ pick (named g t) (transactor_at s t).value (transactor_at s t).saved
  unfolding checkpoint_group transactor_at checkpoint_at checkpoint_by
  group-saved g t = ⊎_elim
      (λ (h : t < y.transactors). ap (λ (x : Transactor). x.saved) (get_d_tabulate (checkpoint_at y s g) y.transactors t no_transactor h) ∙ within (named g t))
      (λ (h : y.transactors ≤ t). ap (λ (x : Transactor). x.saved) (get_or-eq_default (tabulate y.transactors (checkpoint_at y s g)) no_transactor {n = t} (omega (arith, length-tabulate (checkpoint_at y s g) y.transactors, h)))
      ∙ past (named g t) (no-transactor well t h))
      (sides t y.transactors)
    where
      within : (c : Bool) → (pick c (checkpoint_by y t (transactor_at s t)) (transactor_at s t)).saved ≡ pick c (transactor_at s t).value (transactor_at s t).saved
      within true = refl
      within false = refl

      past : (c : Bool) → transactor_at s t ≡ no_transactor → 0 ≡ pick c (transactor_at s t).value (transactor_at s t).saved
      past true e = sym (ap (λ (x : Transactor). x.value) e)
      past false e = sym (ap (λ (x : Transactor). x.saved) e)

  module _ (p : Step) (t : ℕ) where
    abbrev Same : Result → Type 0
    Same q = (transactor_at q.state t).saved ≡ (transactor_at s t).saved

    other-saved : (p.kind ≡ sign → ⊥) → Same (apply y s p)
    unfolding apply apply_root apply_letter apply_receive apply_new apply_send apply_lose apply_local with_message without_message transactor_at
    other-saved other =
        let k : ℕ = p.kind in
        let u : ℕ = p.transactor in
        let m : ℕ = place_of s p.message in
        let w : ℕ = (message_at s m).addressee in
        let fresh : (transactor_at s s.opened).saved ≡ 0 = unopened-saved s.opened (omega arith) in
        pick-view Same (eqb k root) _ _ (λ e. opened-saved s _ (sym fresh) t) λ e0.
        pick-view Same (eqb k letter) _ _ (λ e. refl) λ e1.
        pick-view Same (eqb k receive) _ _ (λ e. with-saved s w _ (receive-saved y w (transactor_at s w) (never-saved w) (message_at s m)) t) λ e2.
        pick-view Same (eqb k new) _ _ (λ e. child-saved s u _ _ refl (sym fresh) t) λ e3.
        pick-view Same (eqb k send) _ _ (λ e. refl) λ e4.
        pick-view Same (eqb k lose) _ _ (λ e. refl) λ e5.
        pick-view Same (eqb k sign) _ _ (λ e. absurd (other (eqb-true k sign e))) λ e6.
        with-saved s u _ (local-saved y u (transactor_at s u) (never-saved u) k p.value) t

    abbrev Right : Result → Type 0
    Right q = (transactor_at q.state t).saved ≡ pick (eqb p.kind sign and (eqb q.reply.outcome done and named p.message t)) (transactor_at s t).value (transactor_at s t).saved

    signing-saved : p.kind ≡ sign → Right (apply y s p)
    unfolding apply apply_sign
    signing-saved k = rw k (pick-view (λ (q : Result). (transactor_at q.state t).saved ≡ pick (eqb q.reply.outcome done and named p.message t) (transactor_at s t).value (transactor_at s t).saved)
        (group_ready y s p.message) _ _ (λ e. group-saved p.message t) (λ e. refl))

    -- A signing that replies 0 and names the take saves its text; every other step keeps what is saved.
    pub step-saved : (transactor_at (step_of y s p).state t).saved ≡ pick (signs_take y s p t) (transactor_at s t).value (transactor_at s t).saved
    unfolding signs_take step_of
    step-saved = go (ℕ_discrete p.kind sign)
      where
        refused : Result
        refused = record { reply = answer (refusal y s p) 0 0 0; state = s }

        go : Dec (p.kind ≡ sign) → Right (pick (eqb (refusal y s p) 0) (apply y s p) refused)
        go (no n) = rw (ne_eqb p.kind sign n) (pick-view Same (eqb (refusal y s p) 0) (apply y s p) refused (λ e. other-saved n) (λ e. refl))
        go (yes k) = pick-view Right (eqb (refusal y s p) 0) (apply y s p) refused (λ e. signing-saved k) (λ e. refused-keeps (eqb p.kind sign) (eqb (refusal y s p) 0) (named p.message t) (transactor_at s t).value (transactor_at s t).saved e)

-- ---- the steps of a part

module _ {y : Layout} (z : Fitting y) {s : State} (well : WellFormed y s) (steps : List ℕ) (octets : Octets steps) where
  -- After i steps of a part the saved text is the one that the take had just before the last of them that signs it; what it was, if none does.
  pub steps-saved : (t i : ℕ) → (transactor_at (state_after y s steps i) t).saved ≡ last_signed y s steps t (transactor_at s t).saved i
  unfolding state_after last_signed
  steps-saved t zero = refl
  steps-saved t (suc i) = step-saved (keeps-after z well steps octets i) (step_at steps i) t
      ∙ ap (pick (signs_take y (state_after y s steps i) (step_at steps i) t) (transactor_at (state_after y s steps i) t).value) (steps-saved t i)

-- ---- the calls of a session

fresh-saved : (y : Layout) (m : Limits) (t : ℕ) → (transactor_at (fresh y m) t).saved ≡ 0
unfolding fresh transactor_at
fresh-saved y m t = ⊎_elim
    (λ (h : t < y.transactors). ap (λ (x : Transactor). x.saved) (get_or-replicate y.transactors t (bare y unused) no_transactor h))
    (λ (h : y.transactors ≤ t). ap (λ (x : Transactor). x.saved) (get_or-eq_default (replicate y.transactors (bare y unused)) no_transactor {n = t} (rw length-replicate h)))
    (sides t y.transactors)

begun-saved : {y : Layout} → Fitting y → (m : Limits) → in_range y m ≡ true → (t : ℕ) → (transactor_at (unpack y (fresh_image y m)) t).saved ≡ 0
begun-saved {y} z m e t = subst (λ (img : List ℕ). (transactor_at (unpack y img) t).saved ≡ 0) (sym (pack-fresh y m))
    (subst (λ (s : State). (transactor_at s t).saved ≡ 0) (sym (unpack-pack y (fresh y m) (well-fresh z m e).packable)) (fresh-saved y m t))

module _ {y : Layout} (z : Fitting y) where
  -- a begin
  begin-saved : (img : List ℕ) (m : Limits) (t : ℕ) → (transactor_at (unpack y (begin_image y m img)) t).saved ≡ pick (eqb (begin_answer y m img) 0) 0 (transactor_at (unpack y img) t).saved
  unfolding begin_image
  begin-saved img m t = go (ℕ_discrete (begin_answer y m img) 0)
    where
      go : Dec (begin_answer y m img ≡ 0) → (transactor_at (unpack y (pick (eqb (begin_answer y m img) 0) (fresh_image y m) img)) t).saved ≡ pick (eqb (begin_answer y m img) 0) 0 (transactor_at (unpack y img) t).saved
      go (yes e) = rw (eq-eqb (begin_answer y m img) 0 e) (begun-saved z m (begin-accepted y img m e).0 t)
      go (no n) = rw (ne_eqb (begin_answer y m img) 0 n)

  -- a run
  run-saved : (img : List ℕ) → WellFormed y (unpack y img) → (list : List ℕ) → Octets list → (start end : ℕ) (lent : List ℕ) (t : ℕ)
      → (transactor_at (unpack y (run_image y img list start end lent)) t).saved
      ≡ pick (eqb (run_answer y img list start end lent) 0) (last_signed y (unpack y img) (part start (end - start) list) t (transactor_at (unpack y img) t).saved (steps_in (part start (end - start) list))) (transactor_at (unpack y img) t).saved
  unfolding run_image ran_image
  run-saved img well list o start end lent t = go (ℕ_discrete (run_answer y img list start end lent) 0)
    where
      steps : List ℕ
      steps = part start (end - start) list

      last : State
      last = state_after y (unpack y img) steps (steps_in steps)

      ran : (transactor_at (unpack y (pack y last)) t).saved ≡ last_signed y (unpack y img) steps t (transactor_at (unpack y img) t).saved (steps_in steps)
      ran = ap (λ (s : State). (transactor_at s t).saved) (unpack-pack y last (keeps-after z well steps (octets-part start (end - start) list o) (steps_in steps)).packable)
          ∙ steps-saved z well steps (octets-part start (end - start) list o) t (steps_in steps)

      go : Dec (run_answer y img list start end lent ≡ 0) → (transactor_at (unpack y (pick (eqb (run_answer y img list start end lent) 0) (pack y last) img)) t).saved
          ≡ pick (eqb (run_answer y img list start end lent) 0) (last_signed y (unpack y img) steps t (transactor_at (unpack y img) t).saved (steps_in steps)) (transactor_at (unpack y img) t).saved
      go (yes e) = rw (eq-eqb (run_answer y img list start end lent) 0 e) ran
      go (no n) = rw (ne_eqb (run_answer y img list start end lent) 0 n)

  call-saved : {img after : List ℕ} {c : Call} {a : Answer} → WellFormed y (unpack y img) → Performed y img c a after → (t : ℕ)
      → (transactor_at (unpack y after) t).saved ≡ signed_over y img c t (transactor_at (unpack y img) t).saved
  call-saved {img} well (beginning {m} k) t = ap (λ (i : List ℕ). (transactor_at (unpack y i) t).saved) k.1 ∙ begin-saved img m t
  call-saved {img} well (running {list} {o} {start} {end} {lent} k) t = ap (λ (i : List ℕ). (transactor_at (unpack y i) t).saved) k.1 ∙ run-saved img well list o start end lent t
  call-saved well (offering f) t = refl
  call-saved well (showing f) t = refl

  -- After the calls of a session the saved text of every take is the text that it had just before its last signing since the last accepted begin;
  -- 0 if there is none.
  pub session-saved : {img : List ℕ} (τ : Trace y img) (t : ℕ) → (transactor_at (unpack y img) t).saved ≡ signed_text τ t
  unfolding signed_text
  session-saved (opened m img e) t = let a = begin-accepted y img m e in subst (λ (i : List ℕ). (transactor_at (unpack y i) t).saved ≡ 0) (sym a.1) (begun-saved z m a.0 t)
  session-saved (called {img} τ c a p) t = call-saved (grown z τ).holds.well p t ∙ ap (signed_over y img c t) (session-saved τ t)

  -- And so it is in the middle of a run, after the first i of its steps.
  pub run-text : {img : List ℕ} (τ : Trace y img) (list : List ℕ) → Octets list → (start end : ℕ) (t i : ℕ)
      → (transactor_at (state_after y (unpack y img) (part start (end - start) list) i) t).saved ≡ last_signed y (unpack y img) (part start (end - start) list) t (signed_text τ t) i
  run-text {img} τ list o start end t i =
      steps-saved z (grown z τ).holds.well (part start (end - start) list) (octets-part start (end - start) list o) t i
      ∙ ap (λ (v : ℕ). last_signed y (unpack y img) (part start (end - start) list) t v i) (session-saved τ t)

  -- ---- at every point

  pub point-saved : {t : ℕ} {img : List ℕ} {τ : Trace y img} {s : State} {v : ℕ} → SignedAt y t img τ s v → (transactor_at s t).saved ≡ v
  point-saved {t} (at-end {τ = τ}) = session-saved τ t
  point-saved {t} (at-step {list = list} {o} {start} {end} {τ = τ} i e n) = run-text τ list o start end t i
  point-saved (earlier k) = point-saved k

  -- every point has one
  step-signed : (t : ℕ) {img : List ℕ} {τ : Trace y img} {s s' : State} {b : Provenance} {p : Step} {reply : List ℕ} → StepIn y img τ s b p reply s' → (v : ℕ) × SignedAt y t img τ s v
  step-signed t (last-run i f e n g) = (_, at-step i e n)
  step-signed t (earlier-run k) = let q = step-signed t k in (_, earlier q.1)

  pub point-signed : (t : ℕ) {img : List ℕ} {τ : Trace y img} {s : State} {b : Provenance} → Point y img τ s b → (v : ℕ) × SignedAt y t img τ s v
  point-signed t (session.at-end f) = (_, at-end)
  point-signed t (session.at-step k) = step-signed t k
  point-signed t (session.earlier k) = let q = point-signed t k in (_, earlier q.1)

  -- After a step by which take t falls, outcome 3 or 4, its text is the one that was saved: that of its last signing; and 0 if it vanished.
  pub fallen-text : {img : List ℕ} {τ : Trace y img} {s s' : State} {b : Provenance} {p : Step} {reply : List ℕ} → StepIn y img τ s b p reply s'
      → {t v : ℕ} → SignedAt y t img τ s v → RolledBackIn reply t → (transactor_at s' t).value ≡ v
  fallen-text {s = s} {p = p} k {t} {v} at f =
      let q = step-taken z k in
      let w = (rolled q.beside.well q.beside.rel p q.ok.message (withdraws z k f)).1 in
      ap (λ (x : State). (transactor_at x t).value) q.after ∙ ap (λ (x : Transactor). x.value) w.is
      ∙ rollback-value y t (transactor_at s t) (never-saved q.beside.well t) ∙ point-saved at

-- At the ledger's own layout.
pub point-saved-base : {t : ℕ} {img : List ℕ} {τ : Trace base img} {s : State} {v : ℕ} → SignedAt base t img τ s v → (transactor_at s t).saved ≡ v
point-saved-base k = point-saved fitting-base k

pub fallen-text-base : {img : List ℕ} {τ : Trace base img} {s s' : State} {b : Provenance} {p : Step} {reply : List ℕ} → StepIn base img τ s b p reply s'
    → {t v : ℕ} → SignedAt base t img τ s v → RolledBackIn reply t → (transactor_at s' t).value ≡ v
fallen-text-base k at f = fallen-text fitting-base k at f
