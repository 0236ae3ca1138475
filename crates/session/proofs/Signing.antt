-- A signing keeps the relation.
use Prim.Native.Nat.{ℕ}
use mathlib.Core.Bool.{true, true≢false}
use mathlib.Core.Path.{◌≡◌, refl, sym, ◌∙◌}
use mathlib.Core.List.{List, [], ◌∷◌, ◌++◌}
use mathlib.Core.Logic.{◌⊎◌, inl, inr, ⊎_elim}
use native.Mathlib.Omega.{arith}
use Rattle.marks.specs.Incarnation.{Incarnation, Checkpointed}
use Rattle.marks.specs.History.{HistoryView, checkpointed_view}
use Rattle.marks.proofs.Order.{checkpointed-up, checkpointed-checkpoint, checkpointed-split}
use Rattle.marks.proofs.Histories.{◌⊑◌, ⊑_refl, ⊑-checkpointed}
use Rattle.rules.specs.Refusals.{named}
use Rattle.session.specs.Provenance.{unused, idle, Live, is-idle, Holder, Provenance}
use Rattle.session.specs.Grounds.{from_start, in-state, CheckpointedNow, StablePresent}
use Rattle.session.specs.Steps.{anew, checkpointed_at, NotedBy, before, now-checkpointed, signs}
use Rattle.session.proofs.Model.{Ledger, own, anew_node, checkpointed_nodes, sign_ledger}
use Rattle.session.proofs.Tables.{pick-view, pick-both}
use Rattle.session.proofs.Relation.{live-used, present_of, present, present-live, HolderRel, Rel, own-history, holder-kept, messages-kept, grounds-kept, keys_kept}
use Rattle.session.proofs.Locals.{anew-rel}
use Rattle.session.proofs.Sign.{Ready, ready-live, settled, checkpointed_now-to, own-has}

snoc-ne : (s : List ℕ) (n : ℕ) → s ++ n ∷ [] ≡ [] → ⊥
snoc-ne [] n e = let z : ◌≡◌ {A = ℕ} 0 1 = cc in omega arith
snoc-ne (x ∷ s) n e = let z : ◌≡◌ {A = ℕ} 0 1 = cc in omega arith

module _ (l : Ledger) (b : Provenance) (r : Rel l b) (g : ℕ) (ok : Ready l (named g)) where
  abbrev later : ℕ → HistoryView
  later = present (checkpointed_at b g)

  live : (t : ℕ) → named g t ≡ true → Live (b.holders t).status
  live = ready-live l b r g ok

  abbrev anew_at : ℕ → Holder
  anew_at t = anew t (checkpointed_view (b.holders t).history)

  -- the present mark of a named take is its new one, that of any other stays
  named-now : (t : ℕ) → named g t ≡ true → later t ≡ checkpointed_view (b.holders t).history
  unfolding checkpointed_at
  named-now t n = pick-view (λ (h : Holder). present_of h.status h.history ≡ checkpointed_view (b.holders t).history) (named g t) (anew_at t) (b.holders t)
      (λ e. present-live idle (checkpointed_view (b.holders t).history) is-idle) (λ e. absurd (true≢false (sym n ∙ e)))

  grow : (t : ℕ) → present b.holders t ⊑ later t
  unfolding checkpointed_at
  grow t = pick-view (λ (h : Holder). present b.holders t ⊑ present_of h.status h.history) (named g t) (anew_at t) (b.holders t)
      (λ e. rw (present-live (b.holders t).status (b.holders t).history (live t e), present-live idle (checkpointed_view (b.holders t).history) is-idle) (⊑-checkpointed (b.holders t).history))
      (λ e. ⊑_refl _)

  -- E: what a named take rests on was signed, or is the present life of a named take, which is signed now
  grounds-now : (t : ℕ) (a : Incarnation) (u : ℕ) (c : Incarnation) → NotedBy b g t a u c → Checkpointed c (later u).incarnation
  grounds-now t a u c (before k) = grounds-kept l b r later grow t a u c k
  grounds-now t a u c (now-checkpointed n e rests) = go (settled l b r g ok t n u c rests)
    where
      go : CheckpointedNow b u c ⊎ StablePresent b g u c → Checkpointed c (later u).incarnation
      go (inl s) = checkpointed-up (checkpointed_now-to b s) (grow u).incarnation
      go (inr f) = rw (named-now u f.named, f.present.is) (checkpointed-checkpoint (b.holders u).history.incarnation)

  -- it is noted for the life at which that take is signed now
  keys-now : (t : ℕ) (a : Incarnation) (u : ℕ) (c : Incarnation) → NotedBy b g t a u c → Checkpointed a (later t).incarnation
  keys-now t a u c (before k) = keys_kept l b r later grow t a u c k
  keys-now t a u c (now-checkpointed n e rests) = rw (named-now t n, e) (checkpointed-checkpoint (b.holders t).history.incarnation)

  -- a life that is signed was signed before and noted, or is signed now and noted: its take rests on it
  own-now : (t : ℕ) (a : Incarnation) → Checkpointed a (later t).incarnation → NotedBy b g t a t a
  unfolding checkpointed_at
  own-now t a = pick-view (λ (h : Holder). Checkpointed a (present_of h.status h.history).incarnation → NotedBy b g t a t a) (named g t) (anew_at t) (b.holders t)
      (λ n s. ⊎_elim
      (λ c. before (r.noted.own t a (rw (present-live (b.holders t).status (b.holders t).history (live t n)) c)))
      (λ e. now-checkpointed n e (rw e (from_start (in-state (own-has l b r t (live t n))))))
      (checkpointed-split a (b.holders t).history.incarnation (rw (present-live idle (checkpointed_view (b.holders t).history) is-idle) at s)))
      (λ n s. before (r.noted.own t a s))

  pub step-sign : Rel (sign_ledger l (named g)) (signs b g)
  unfolding checkpointed_nodes checkpointed_at
  step-sign = record {
    limits = r.limits;
    opened = r.opened;
    next = r.next;
    used = λ t k. pick-view (λ (h : Holder). h.status ≡ unused → ⊥) (named g t) (anew_at t) (b.holders t) (λ e. live-used is-idle) (λ e. r.used t k);
    fresh = λ t k. pick-view (λ (h : Holder). h.status ≡ unused) (named g t) (anew_at t) (b.holders t)
        (λ e. absurd (live-used (live t e) (r.fresh t k))) (λ e. r.fresh t k);
    holders = λ t. pick-both (λ x h. HolderRel later t x h) (named g t) (named g t) refl
        (anew_node t (checkpointed_view (own t (l.nodes t)))) (l.nodes t) (anew_at t) (b.holders t)
        (λ e. rw (own-history (r.holders t)) (anew-rel later t (checkpointed_view (b.holders t).history) (rw (named-now t e) (⊑_refl _))
        (λ k. absurd (snoc-ne (b.holders t).history.incarnation.checkpoints (b.holders t).history.incarnation.number k))))
        (λ e. holder-kept l b r later grow t);
    messages = messages-kept l b r later grow;
    noted = record { grounds = grounds-now; keys = keys-now; own = own-now };
  }
