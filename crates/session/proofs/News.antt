-- Document 02, W4: what a receipt with outcome 0 makes of a map, as a parameter with one law, so that what holds with the news is
-- seen to hold without it too. The rule is one instance, the ledger before it another.
use Prim.Native.Nat.{ℕ}
use mathlib.Core.Bool.{Bool, true, false}
use mathlib.Core.Path.{◌≡◌, refl}
use mathlib.Core.Option.{Option, none, some}
use lib.Dec.{eqb}
use borrow.Author.Tests.{eq-eqb}
use Rattle.octets.specs.Bytes.{pick}
use Rattle.marks.specs.Incarnation.{Incarnation}
use Rattle.marks.specs.History.{HistoryView, stabilized_view}
use Rattle.marks.specs.News.{shows_stable, Shows}
use Rattle.marks.proofs.News.{shows-test, informed_view, shown-known}
use Rattle.maps.specs.Internal.View.{MapView}
use Rattle.maps.proofs.News.{informed_entry, informed_table}
use Rattle.session.proofs.Model.{News}
use Rattle.session.proofs.Tables.{pick-view}
use Rattle.session.proofs.Sets.{Cell, newest, cell-has}

-- ---- the law

-- what becomes of an entry where the parcel's is o: nothing, or it is frozen and the parcel's shows it
pub data Informed (o : Option HistoryView) : Option HistoryView → Option HistoryView → Type 0 where
  kept : {e : Option HistoryView} → Informed o e e
  told : {m p : HistoryView} → o ≡ some p → Shows m.incarnation p → Informed o (some m) (some (stabilized_view m))

-- no life changes, flags only grow, and only where the parcel shows it; the receiver's own entry stays
pub record NewsLaw (w : News) : Type 0 where
  pub own : (t : ℕ) (M N : MapView) → w t M N t ≡ M t
  pub entry : (t : ℕ) (M N : MapView) (u : ℕ) → Informed (N u) (M u) (w t M N u)

-- ---- without news

abbrev pub silent : News
silent t M N = M

pub silent-law : NewsLaw silent
silent-law = record { own = λ t M N. refl; entry = λ t M N u. kept }

-- ---- the rule

entry-informed : (o e : Option HistoryView) → Informed o e (informed_entry e o)
unfolding informed_entry informed_view
entry-informed o none = kept
entry-informed none (some m) = kept
entry-informed (some p) (some m) = go (shows_stable m.incarnation p) refl
  where
    go : (t : Bool) → shows_stable m.incarnation p ≡ t → Informed (some p) (some m) (some (pick t (stabilized_view m) m))
    go true e = told refl ((shows-test m.incarnation p).0 e)
    go false e = kept

pub informed-law : NewsLaw informed_table
unfolding informed_table
informed-law = record {
  own = λ t M N. rw (eq-eqb t t refl);
  entry = λ t M N u. pick-view (Informed (N u) (M u)) (eqb u t) (M u) (informed_entry (M u) (N u)) (λ e. kept) (λ e. entry-informed (N u) (M u));
}

-- ---- a cell keeps its lives, and what is known of its mark

pub cell-informed : {P Q : Incarnation → Type 0} {c : HistoryView} {o e z : Option HistoryView} → Cell Q c o → Cell P c e → Informed o e z → Cell P c z
cell-informed k h kept = h
cell-informed k (newest h) (told i s) = newest (record { has = h.has; top = h.top; known = shown-known h.known (cell-has i k).known s })
