-- The field of a byte, case by case as the code finds it.
use Prim.Native.Nat.{ℕ, ◌-◌, ◌/◌, ◌%◌, ◌≤◌, ◌<◌}
use mathlib.Core.Path.{◌≡◌}
use native.Mathlib.Omega.{arith}
use borrow.Author.Tests.{lt-ltb, le-ltb}
use Rattle.rules.specs.Layout.{base}
use Rattle.fields.specs.declared.Field.{Field}
use Rattle.fields.specs.Field.{plain, in_history, front_field, history_field, map_field, transactor_field, message_field, field_of}

module _ (o : ℕ) {r : Field} where
  pub front-opened : o < 1 → r ≡ plain 1 0 0 → r ≡ front_field o
  unfolding front_field
  front-opened h e = rw (lt-ltb o 1 h) e

  pub front-next : 1 ≤ o → o < 3 → r ≡ plain 2 0 (o - 1) → r ≡ front_field o
  unfolding front_field
  front-next g h e = rw (le-ltb o 1 g, lt-ltb o 3 h) e

  pub front_rest : 3 ≤ o → r ≡ plain o 0 0 → r ≡ front_field o
  unfolding front_field
  front_rest g e = rw (le-ltb o 1 (omega arith), le-ltb o 3 g) e

module _ (map holder support o : ℕ) {r : Field} where
  pub history-flags : o < 1 → r ≡ in_history 14 holder map support 0 0 → r ≡ history_field base map holder support o
  unfolding history_field
  history-flags h e = rw (lt-ltb o 1 h) e

  pub history-number : 1 ≤ o → o < 3 → r ≡ in_history 15 holder map support 0 (o - 1) → r ≡ history_field base map holder support o
  unfolding history_field
  history-number g h e = rw (le-ltb o 1 g, lt-ltb o 3 h) e

  pub history-entry : 3 ≤ o → r ≡ in_history 16 holder map support ((o - 3) / 2) ((o - 3) % 2) → r ≡ history_field base map holder support o
  unfolding history_field
  history-entry g e = rw (le-ltb o 1 (omega arith), le-ltb o 3 g) e

pub in_map : (map holder o : ℕ) {r : Field} → r ≡ history_field base map holder (o / 33) (o % 33) → r ≡ map_field base map holder o
unfolding map_field
in_map map holder o e = e

module _ (t o : ℕ) {r : Field} where
  pub transactor-status : o < 1 → r ≡ plain 8 t 0 → r ≡ transactor_field base t o
  unfolding transactor_field
  transactor-status h e = rw (lt-ltb o 1 h) e

  pub transactor-value : 1 ≤ o → o < 5 → r ≡ plain 9 t (o - 1) → r ≡ transactor_field base t o
  unfolding transactor_field
  transactor-value g h e = rw (le-ltb o 1 g, lt-ltb o 5 h) e

  pub transactor-saved : 5 ≤ o → o < 9 → r ≡ plain 10 t (o - 5) → r ≡ transactor_field base t o
  unfolding transactor_field
  transactor-saved g h e = rw (le-ltb o 1 (omega arith), le-ltb o 5 g, lt-ltb o 9 h) e

  pub transactor-map : 9 ≤ o → r ≡ map_field base ((o - 9) / 528) t ((o - 9) % 528) → r ≡ transactor_field base t o
  unfolding transactor_field
  transactor-map g e = rw (le-ltb o 1 (omega arith), le-ltb o 5 (omega arith), le-ltb o 9 g) e

module _ (k o : ℕ) {r : Field} where
  pub message-addressee : o < 1 → r ≡ plain 11 k 0 → r ≡ message_field base k o
  unfolding message_field
  message-addressee h e = rw (lt-ltb o 1 h) e

  pub message-number : 1 ≤ o → o < 3 → r ≡ plain 12 k (o - 1) → r ≡ message_field base k o
  unfolding message_field
  message-number g h e = rw (le-ltb o 1 g, lt-ltb o 3 h) e

  pub message-value : 3 ≤ o → o < 7 → r ≡ plain 13 k (o - 3) → r ≡ message_field base k o
  unfolding message_field
  message-value g h e = rw (le-ltb o 1 (omega arith), le-ltb o 3 g, lt-ltb o 7 h) e

  pub message-map : 7 ≤ o → r ≡ map_field base 3 k (o - 7) → r ≡ message_field base k o
  unfolding message_field
  message-map g e = rw (le-ltb o 1 (omega arith), le-ltb o 3 (omega arith), le-ltb o 7 g) e

module _ (o : ℕ) {r : Field} where
  pub field-front : o < 8 → r ≡ front_field o → r ≡ field_of base o
  unfolding field_of
  field-front h e = rw (lt-ltb o 8 h) e

  pub field-transactor : 8 ≤ o → o < 25496 → r ≡ transactor_field base ((o - 8) / 1593) ((o - 8) % 1593) → r ≡ field_of base o
  unfolding field_of
  field-transactor g h e = rw (le-ltb o 8 g, lt-ltb o 25496 h) e

  pub field-message : 25496 ≤ o → o < 42616 → r ≡ message_field base ((o - 25496) / 535) ((o - 25496) % 535) → r ≡ field_of base o
  unfolding field_of
  field-message g h e = rw (le-ltb o 8 (omega arith), le-ltb o 25496 g, lt-ltb o 42616 h) e

  pub field_past : 42616 ≤ o → r ≡ plain 0 0 0 → r ≡ field_of base o
  unfolding field_of
  field_past g e = rw (le-ltb o 8 (omega arith), le-ltb o 25496 (omega arith), le-ltb o 42616 g) e
