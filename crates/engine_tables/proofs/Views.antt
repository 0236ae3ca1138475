-- What is kept, changed, is the tables changed.
use Prim.Native.Nat.{ℕ}
use mathlib.Core.Bool.{Bool}
use mathlib.Core.Path.{◌≡◌, refl, ap, sym, ◌∙◌}
use mathlib.Core.List.{List}
use Rattle.octets.specs.Table.{updated}
use Rattle.engine_tables.specs.declared.table.Row.{Row}
use Rattle.engine_tables.specs.declared.table.Slot.{Slot}
use Rattle.engine_tables.specs.Internal.Tables.{opened_row, filled_slot, empty_slot, open_row, with_slot, without_slot, checkpoint_rows}
use Rattle.octets.proofs.Tables.{updated-self}
use Rattle.engine_tables.specs.declared.register.Register.{Register}
use Rattle.engine_tables.specs.Internal.Register.{row_at, view_of, with_opened, with_number, without_number, checkpointed_row, CheckpointedRows}

-- a place that has what it had
pub same_at : {A : Type 0} (F : ℕ → A) (n : ℕ) (m : A) → F n ≡ m → updated F n m ≡ F
same_at F n m e = λ i k. (ap (λ z. updated F n z k) (sym e) ∙ updated-self F n k) i

module _ (x : Register) (R : ℕ → Row) (F : ℕ → Slot) where
  pub view-opened : (v : ℕ) → view_of (with_opened x) (updated R x.opened (opened_row v)) F ≡ open_row (view_of x R F) v
  unfolding view_of open_row
  view-opened v = refl

  pub view-number : (c : Bool) (to v : ℕ) → view_of (with_number x) R (updated F x.next (filled_slot c to v)) ≡ with_slot (view_of x R F) c to v
  unfolding view_of with_slot
  view-number c to v = refl

  pub view-without : (n : ℕ) → view_of (without_number x) R (updated F n empty_slot) ≡ without_slot (view_of x R F) n
  unfolding view_of without_slot
  view-without n = refl

pub view-checkpoint : (x : Register) (F : ℕ → Slot) (g : ℕ) (before after : List Row) → CheckpointedRows g before after → view_of x (row_at after) F ≡ checkpoint_rows (view_of x (row_at before) F) g
unfolding view_of checkpoint_rows checkpointed_row
view-checkpoint x F g before after c = λ i. record {
  limits = (view_of x (row_at before) F).limits;
  opened = x.opened;
  next = x.next;
  waiting = x.waiting;
  rows = λ t. c.at t i;
  messages = F;
}
