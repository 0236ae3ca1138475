-- Sessions grown from fresh: a write never takes over another list of its take's own mark, so that a signing is independent of every step that
-- is no signing and sees no take that it names (rules, specs/Independent).
use Prim.Native.Nat.{ℕ, ◌<◌}
use mathlib.Core.Bool.{true}
use mathlib.Core.Path.{◌≡◌, sym, ap, ◌∙◌, subst}
use mathlib.Core.List.{List}
use mathlib.Core.Option.{Option, some, get_or}
use native.Mathlib.Omega.{arith}
use Rattle.octets.specs.Bytes.{Octets}
use Rattle.marks.specs.History.{HistoryView, initial_view, view_of}
use Rattle.maps.specs.Map.{history_at}
use Rattle.maps.specs.Internal.View.{map_view}
use Rattle.maps.specs.Internal.Fitting.{MapOk}
use Rattle.maps.proofs.Packed.{map_ok-join}
use Rattle.maps.proofs.View.{within-ok, view-join}
use Rattle.rules.specs.Layout.{Layout, Fitting}
use Rattle.rules.specs.Status as status
use Rattle.rules.specs.State.{Transactor, State, transactor_at, own_history}
use Rattle.rules.specs.declared.Step.{Step}
use Rattle.rules.specs.Step.{write, sign}
use Rattle.rules.specs.Refusals.{named}
use Rattle.rules.specs.Rules.{join, seen, refusal}
use Rattle.rules.specs.Pack.{unpack}
use Rattle.rules.specs.Calls.{state_after}
use Rattle.rules.specs.Internal.Well.{WellFormed}
use Rattle.rules.specs.Independent.{whole, Sees, Independent, KeepsList}
use Rattle.rules.proofs.Keep.Accepted.{Accepted, accepted, transactor-opened, transactor-busy}
use Rattle.rules.proofs.Keep.Step.{keeps-after}
use Rattle.rules.proofs.Independent.Special.{sign-independent}
use Rattle.session.specs.Provenance.{Live, is-busy, In, Holder, Provenance}
use Rattle.session.specs.Trace.{Trace}
use Rattle.session.proofs.Model.{status_of, view_node, view}
use Rattle.session.proofs.Sets.{Cell, own-kept}
use Rattle.session.proofs.Relation.{present, present-live, HolderRel, Rel}
use Rattle.session.proofs.ViewState.{view-own}
use Rattle.session.proofs.Run.{run-right}
use Rattle.session.proofs.Grown.{grown}

module _ {y : Layout} {s : State} (well : WellFormed y s) {b : Provenance} (r : Rel (view s) b) where
  -- the behaviour map's mark of a take at work itself is a past or present one
  keeps-list : (t : ℕ) → t < y.transactors → (transactor_at s t).status ≡ status.busy → KeepsList y t (transactor_at s t)
  unfolding view status_of
  keeps-list t h k =
      let x : Transactor = transactor_at s t in
      let holder : Holder = b.holders t in
      let hr : HolderRel (present b.holders) t (view_node x) holder = r.holders t in
      let l : Live holder.status = subst Live (sym (ap status_of k) ∙ hr.status) is-busy in
      let os : MapOk y.width y.places y.transactors x.state = (well.packable.transactors t h).state in
      let ob : MapOk y.width y.places y.transactors x.behaviour = (well.packable.transactors t h).behaviour in
      let own : map_view x.state t ≡ some holder.history = hr.own l in
      let known : Cell (λ a. In t a holder.behaviour) holder.history (map_view x.behaviour t) =
      subst (λ (m : HistoryView). Cell (λ a. In t a holder.behaviour) m (map_view x.behaviour t)) (present-live holder.status holder.history l) (hr.behaviour t) in
      let joined : map_view (join y x.behaviour x.state) t ≡ some holder.history = view-join (within-ok ob) (within-ok os) t ∙ own-kept known own in
      let after : view_of (history_at (join y x.behaviour x.state) t) ≡ holder.history =
      sym (view-own (map_ok-join ob os) t) ∙ ap (λ (c : Option HistoryView). get_or c initial_view) joined in
      let before : view_of (own_history t x) ≡ holder.history = sym (view-own os t) ∙ ap (λ (c : Option HistoryView). get_or c initial_view) own in
      record { is = ap (λ (v : HistoryView). v.incarnation.checkpoints) (after ∙ sym before) }

  write_keeps : (q : Step) → refusal y s q ≡ 0 → q.kind ≡ write → KeepsList y q.transactor (transactor_at s q.transactor)
  unfolding refusal seen
  write_keeps q z e =
      let a : Accepted y (seen y s) q = accepted y (seen y s) q z in
      let h : q.transactor < s.opened = transactor-opened a (rw e) in
      keeps-list q.transactor (omega (arith, h, well.opened, well.limits.transactors-high)) (transactor-busy a (rw e))

-- in any session, before any step of any list of steps
pub grown-sign-independent : {y : Layout} → Fitting y → {img : List ℕ} → Trace y img → (steps : List ℕ) → Octets steps → (i : ℕ) (p q : Step)
    → p.kind ≡ sign → (q.kind ≡ sign → ⊥) → ((t : ℕ) → named p.message t ≡ true → Sees (state_after y (unpack y img) steps i) q (whole t) → ⊥)
    → Independent y (state_after y (unpack y img) steps i) p q
grown-sign-independent {y} z {img} τ steps o i p q e n f =
    let g = grown z τ in
    let well : WellFormed y (state_after y (unpack y img) steps i) = keeps-after z g.holds.well steps o i in
    let r = run-right z g.holds.well g.holds.rel steps o i in
    sign-independent y (state_after y (unpack y img) steps i) p q well e n (write_keeps well r.rel q) f
