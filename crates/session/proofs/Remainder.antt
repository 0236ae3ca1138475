-- Document 02, W14, over signings: where a volume meets the signing rule and another one is signed, what the second leaves of the first
-- meets it still. Grounds of the rest that were in both are signed now; the others are where they were.
use Prim.Native.Nat.{ℕ, ◌<◌}
use mathlib.Core.Bool.{Bool, true, false, not, true≢false}
use mathlib.Core.Path.{◌≡◌, refl, ap, sym, ◌∙◌}
use mathlib.Core.Logic.{◌⊎◌, inl, inr, ⊎_elim}
use mathlib.Core.Option.{some, get_or}
use lib.Bits.{bit_and, bit_xor}
use Rattle.octets.specs.Bytes.{◌and◌}
use Rattle.octets.specs.Numbers.{bound}
use Rattle.marks.specs.Incarnation.{Checkpointed}
use Rattle.marks.specs.History.{HistoryView, initial_view, checkpointed_view}
use Rattle.marks.proofs.Order.{checkpointed-up, checkpointed-checkpoint}
use Rattle.marks.proofs.Histories.{⊑-checkpointed}
use Rattle.maps.specs.Internal.View.{empty_view, singleton_view}
use Rattle.octets.proofs.Tables.{updated-same}
use Rattle.rules.specs.Layout.{Layout}
use Rattle.rules.specs.declared.Step.{Step}
use Rattle.rules.specs.Step.{sign}
use Rattle.rules.specs.Refusals.{named}
use Rattle.rules.proofs.Bits.{named-without}
use Rattle.session.specs.Provenance.{Live, is-idle, Provenance}
use Rattle.session.specs.Grounds.{Equal}
use Rattle.session.specs.Steps.{signs, provenance_refusal, ProvenanceStep, refuses, applies, signing, not-ready}
use Rattle.session.proofs.Model.{Node, Ledger, own, anew_node, checkpointed_nodes, sign_ledger}
use Rattle.session.proofs.Relation.{Rel}
use Rattle.session.proofs.Accepted.{named_live}
use Rattle.session.proofs.Sign.{EntryReady, Ready, ready-live, ready-equal, equal-ready}
use Rattle.session.proofs.Signing.{step-sign}
use Rattle.session.proofs.Carried.{rule-on}

-- ---- volumes

-- volume v without the takes of w
abbrev pub without : ℕ → ℕ → ℕ
without v w = bit_xor v (bit_and v w)

-- ---- the rule

module _ (l : Ledger) (v w : ℕ → Bool) where
  abbrev rest : ℕ → Bool
  rest t = v t and not (w t)

  rest-parts : (t : ℕ) → rest t ≡ true → (v t ≡ true) × (w t ≡ false)
  rest-parts t = go (v t) (w t)
    where
      go : (a b : Bool) → a and not b ≡ true → (a ≡ true) × (b ≡ false)
      go true true e = absurd (true≢false (sym e))
      go true false e = (refl, refl)
      go false b e = absurd (true≢false (sym e))

  -- a take that is not signed is as it was
  unsigned-node : (t : ℕ) → w t ≡ false → checkpointed_nodes w l.nodes t ≡ l.nodes t
  unfolding checkpointed_nodes
  unsigned-node t e = rw e

  own-anew : (t : ℕ) (m : HistoryView) → own t (anew_node t m) ≡ m
  unfolding singleton_view
  own-anew t m = ap (λ o. get_or o initial_view) (updated-same empty_view t (some m))

  -- what passed the test passes it for the rest
  entry-rest : (u : ℕ) (m : HistoryView) → EntryReady l v u m → EntryReady (sign_ledger l w) rest u m
  unfolding checkpointed_nodes
  entry-rest u m e = go (w u) refl
    where
      after : Node → Type 0
      after x = Live x.status × (Checkpointed m.incarnation (own u x).incarnation ⊎ ((rest u ≡ true) × (m.incarnation ≡ (own u x).incarnation)))

      ready_of : after (checkpointed_nodes w l.nodes u) → EntryReady (sign_ledger l w) rest u m
      ready_of k = record { live = k.0; is = k.1 }

      now-checkpointed : Checkpointed m.incarnation (own u (l.nodes u)).incarnation ⊎ ((v u ≡ true) × (m.incarnation ≡ (own u (l.nodes u)).incarnation))
          → Checkpointed m.incarnation (checkpointed_view (own u (l.nodes u))).incarnation
      now-checkpointed (inl s) = checkpointed-up s (⊑-checkpointed (own u (l.nodes u))).incarnation
      now-checkpointed (inr p) = rw p.1 (checkpointed-checkpoint (own u (l.nodes u)).incarnation)

      go : (t : Bool) → w u ≡ t → EntryReady (sign_ledger l w) rest u m
      go true q = ready_of (rw q (is-idle, inl (rw (own-anew u (checkpointed_view (own u (l.nodes u)))) (now-checkpointed e.is))))
      go false q = ready_of (rw q (e.live, ⊎_elim inl (λ p. inr (rw p.0 refl, p.1)) e.is))

  pub rule-rest : Ready l v → Ready (sign_ledger l w) rest
  rule-rest ok = record {
    stable = λ t n. let p = rest-parts t n in rw (unsigned-node t p.1) (ok.stable t p.0);
    state = λ t n u m e. let p = rest-parts t n in entry-rest u m (ok.state t p.0 u m (rw (unsigned-node t p.1) at e));
    creation = λ t n u m e. let p = rest-parts t n in entry-rest u m (ok.creation t p.0 u m (rw (unsigned-node t p.1) at e));
  }

ready-named : {l : Ledger} {v w : ℕ → Bool} → ((t : ℕ) → w t ≡ v t) → Ready l v → Ready l w
ready-named {l} {v} {w} same ok = record {
  stable = λ t n. ok.stable t (sym (same t) ∙ n);
  state = λ t n u m e. entry u m (ok.state t (sym (same t) ∙ n) u m e);
  creation = λ t n u m e. entry u m (ok.creation t (sym (same t) ∙ n) u m e);
}
  where
    entry : (u : ℕ) (m : HistoryView) → EntryReady l v u m → EntryReady l w u m
    entry u m e = record { live = e.live; is = ⊎_elim inl (λ p. inr (same u ∙ p.0, p.1)) e.is }

-- ---- any step that does not sign take t

-- some volume with take t meets the rule
pub record Beside (l : Ledger) (t : ℕ) : Type 0 where
  pub group : ℕ
  pub own : named group t ≡ true
  pub rule : Ready l (named group)

module _ (l : Ledger) (b : Provenance) (r : Rel l b) (y : Layout) (t : ℕ) (now : Beside l t) (k : Ledger) where
  abbrev v : ℕ
  v = now.group

  -- where the book stays, so does the rule
  pub beside_same : Rel k b → Beside k t
  beside_same r2 = record { group = v; own = now.own; rule = equal-ready k b r2 v (ready-live l b r v now.rule) (ready-equal l b r v now.rule) }

  beside-by : (p : Step) {c : Provenance} → Rel k c → p.message < bound 2
      → (provenance_refusal y b p ≡ 0 → p.kind ≡ sign → Equal b p.message → named p.message t ≡ true → ⊥) → ProvenanceStep y b p c → Beside k t
  beside-by p r2 bits unsigned (refuses z) = beside_same r2
  beside-by p r2 bits unsigned (applies z n) = record { group = v; own = now.own; rule = rule-on l b r y v now.rule k r2 p n (applies z n) }
  beside-by p r2 bits unsigned (not-ready z n e) = beside_same r2
  beside-by p r2 bits unsigned (signing z n e) =
      let g : ℕ = p.message in
      let ok : Ready l (named g) = equal-ready l b r g (named_live l b r y p z n bits) e in
      let s : Rel (sign_ledger l (named g)) (signs b g) = step-sign l b r g ok in
      let left : Ready (sign_ledger l (named g)) (named (without v g)) = ready-named (named-without v g) (rule-rest l (named v) (named g) now.rule) in
      record {
        group = without v g;
        own = named-without v g t ∙ rw (now.own, unnamed (named g t) (unsigned z n e)) refl;
        rule = equal-ready k (signs b g) r2 (without v g) (ready-live (sign_ledger l (named g)) (signs b g) s (without v g) left) (ready-equal (sign_ledger l (named g)) (signs b g) s (without v g) left);
      }
    where
      unnamed : (x : Bool) → (x ≡ true → ⊥) → x ≡ false
      unnamed true f = absurd (f refl)
      unnamed false f = refl

  pub beside-on : {c : Provenance} → Rel k c → (p : Step) → p.message < bound 2
      → (provenance_refusal y b p ≡ 0 → p.kind ≡ sign → Equal b p.message → named p.message t ≡ true → ⊥) → ProvenanceStep y b p c → Beside k t
  beside-on r2 p = beside-by p r2
