-- Both sides see the same, so they refuse alike.
use Prim.Native.Nat.{ℕ}
use mathlib.Core.Bool.{Bool, false, not}
use mathlib.Core.Path.{◌≡◌, ap, sym, ◌∙◌}
use lib.ListN.{length}
use Rattle.octets.specs.Bytes.{◌and◌}
use Rattle.marks.specs.History.{HistoryView}
use Rattle.rules.specs.Layout.{Layout}
use Rattle.rules.specs.declared.Step.{Step}
use Rattle.rules.specs.Refusals.{Seen, refusal_of}
use Rattle.session.specs.Provenance.{status_number, Provenance, find}
use Rattle.session.specs.Steps.{is_dropped, is_rolled_back, provenance_seen, provenance_refusal}
use Rattle.session.proofs.Model.{Ledger, own, find_message, missing_message}
use Rattle.session.proofs.Relation.{present, MessageRel, Rel, own-history, all2-length}
use Rattle.session.proofs.Related.{receipt-related}
use Rattle.session.proofs.Messages.{find-rel, missing-same, ReceiptTests, dropped-same, rolled_back-same}

-- what the table of refusals looks at is the same, field by field
pub record SameSeen (v w : Seen) : Type 0 where
  pub limits : v.limits ≡ w.limits
  pub opened : v.opened ≡ w.opened
  pub next : v.next ≡ w.next
  pub waiting : v.waiting ≡ w.waiting
  pub status : (t : ℕ) → v.status t ≡ w.status t
  pub stable : (t : ℕ) → v.stable t ≡ w.stable t
  pub checkpoints : (t : ℕ) → v.checkpoints t ≡ w.checkpoints t
  pub incarnation : (t : ℕ) → v.incarnation t ≡ w.incarnation t
  pub missing : (n : ℕ) → v.missing n ≡ w.missing n
  pub addressee : (n : ℕ) → v.addressee n ≡ w.addressee n
  pub rolls : (n : ℕ) → v.rolls n ≡ w.rolls n
  pub unrelated : (n : ℕ) → v.unrelated n ≡ w.unrelated n

pub same_seen : {v w : Seen} → SameSeen v w → v ≡ w
same_seen s = λ i. record {
  limits = s.limits i;
  opened = s.opened i;
  next = s.next i;
  waiting = s.waiting i;
  status = λ t. s.status t i;
  stable = λ t. s.stable t i;
  checkpoints = λ t. s.checkpoints t i;
  incarnation = λ t. s.incarnation t i;
  missing = λ n. s.missing n i;
  addressee = λ n. s.addressee n i;
  rolls = λ n. s.rolls n i;
  unrelated = λ n. s.unrelated n i;
}

-- What the ledger shows; d n, e n and f n stand for the three tests at the receipt of parcel n. Of a take that is not live the mark
-- shown is the opening one.
unfoldable pub seen_of : Ledger → (ℕ → Bool) → (ℕ → Bool) → (ℕ → Bool) → Seen
seen_of l d e f = record {
  limits = l.limits;
  opened = l.opened;
  next = l.next;
  waiting = length l.messages;
  status = λ t. status_number (l.nodes t).status;
  stable = λ t. (own t (l.nodes t)).stable;
  checkpoints = λ t. length (own t (l.nodes t)).incarnation.checkpoints;
  incarnation = λ t. (own t (l.nodes t)).incarnation.number;
  missing = λ n. missing_message n l.messages;
  addressee = λ n. (find_message n l.messages).addressee;
  rolls = λ n. not (d n) and e n;
  unrelated = f;
}

module _ (l : Ledger) (b : Provenance) (r : Rel l b) (d e f : ℕ → Bool)
    (tests : (n : ℕ) → ReceiptTests (l.nodes (find_message n l.messages).addressee) (find_message n l.messages) (d n) (e n))
    (related : (n : ℕ) → f n ≡ false) where
  history-shown : {A : Type 0} (f : HistoryView → A) (t : ℕ) → f (own t (l.nodes t)) ≡ f (b.holders t).history
  history-shown f t = ap f (own-history (r.holders t))

  found : (n : ℕ) → MessageRel (present b.holders) (find_message n l.messages) (find n b.messages)
  found n = find-rel n r.messages

  dropped-shown : (n : ℕ) → d n ≡ is_dropped (b.holders (find n b.messages).addressee) (find n b.messages)
  dropped-shown n =
      dropped-same (r.holders (find_message n l.messages).addressee) (found n) (d n) (tests n).dropped
      ∙ ap (λ t. is_dropped (b.holders t) (find n b.messages)) (found n).addressee

  rolled_back-shown : (n : ℕ) → e n ≡ is_rolled_back (b.holders (find n b.messages).addressee) (find n b.messages)
  rolled_back-shown n =
      rolled_back-same (r.holders (find_message n l.messages).addressee) (found n) (e n) (tests n).rolls-back
      ∙ ap (λ t. is_rolled_back (b.holders t) (find n b.messages)) (found n).addressee

  pub seen_same : SameSeen (seen_of l d e f) (provenance_seen b)
  unfolding seen_of provenance_seen
  seen_same = record {
    limits = r.limits;
    opened = r.opened;
    next = r.next;
    waiting = all2-length r.messages;
    status = λ t. ap status_number (r.holders t).status;
    stable = history-shown (λ m. m.stable);
    checkpoints = history-shown (λ m. length m.incarnation.checkpoints);
    incarnation = history-shown (λ m. m.incarnation.number);
    missing = λ n. missing-same n r.messages;
    addressee = λ n. (found n).addressee;
    rolls = λ n i. not (dropped-shown n i) and rolled_back-shown n i;
    unrelated = λ n. related n ∙ sym (receipt-related l b r n);
  }

  pub refusal-same : (y : Layout) (p : Step) → refusal_of y (seen_of l d e f) p ≡ provenance_refusal y b p
  unfolding provenance_refusal
  refusal-same y p = ap (λ v. refusal_of y v p) (same_seen seen_same)
