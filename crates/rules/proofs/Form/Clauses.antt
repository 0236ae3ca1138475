-- The clauses of the form, one by one.
use Prim.Native.Nat.{ℕ, ◌<◌, ◌≤◌}
use mathlib.Core.Bool.{Bool, true}
use mathlib.Core.Path.{◌≡◌}
use mathlib.Core.List.{List}
use lib.ListN.{length, get_or}
use lib.Dec.{eqb, leb}
use borrow.Author.Tests.{eqb-true, eq-eqb, leb-true, le-leb}
use Rattle.octets.specs.Bytes.{◌and◌, every}
use Rattle.octets.proofs.Zero.{both, every-at, every-all}
use Rattle.rules.specs.Layout.{Layout, in_range}
use Rattle.rules.specs.Pack.{unpack}
use Rattle.rules.specs.Form.{limits_zero, transactor_zeros, message_zeros, status_right, own_held, saved_right, idle_right, annihilated_right, no_gap, in_order, number_right, addressee_right, well_formed}

-- f holds below n
abbrev pub Below : ℕ → (ℕ → Bool) → Type 0
Below n f = (i : ℕ) → i < n → f i ≡ true

pub record Clauses (y : Layout) (img : List ℕ) : Type 0 where
  pub zero : get_or img 3 0 ≡ 0
  pub fourth : limits_zero y img ≡ true
  pub limits : in_range y (unpack y img).limits ≡ true
  pub transactors : Below y.transactors (transactor_zeros y img)
  pub messages : Below y.messages (message_zeros y img)
  pub opened : (unpack y img).opened ≤ (unpack y img).limits.transactors
  pub waiting : length (unpack y img).messages ≤ (unpack y img).limits.messages
  pub status : Below y.transactors (status_right (unpack y img))
  pub own : Below y.transactors (own_held (unpack y img))
  pub saved : Below y.transactors (saved_right (unpack y img))
  pub idle : Below y.transactors (idle_right y img)
  pub vanished : Below y.transactors (annihilated_right y img)
  pub gap : Below y.messages (no_gap y img)
  pub order : Below y.messages (in_order (unpack y img))
  pub number : Below y.messages (number_right (unpack y img))
  pub addressee : Below y.messages (addressee_right (unpack y img))

-- a run of tests, and the tests after it
each : (n : ℕ) (f : ℕ → Bool) (rest : Bool) → every n f and rest ≡ true → Below n f × (rest ≡ true)
each n f rest e =
    let p = both (every n f) rest e in
    (λ i. every-at f n i p.0, p.1)

pub clauses-of : (y : Layout) (img : List ℕ) → well_formed y img ≡ true → Clauses y img
unfolding well_formed
clauses-of y img e =
    let zero = both (eqb (get_or img 3 0) 0) _ e in
    let fourth = both (limits_zero y img) _ zero.1 in
    let limits = both (in_range y (unpack y img).limits) _ fourth.1 in
    let transactors = each y.transactors (transactor_zeros y img) _ limits.1 in
    let messages = each y.messages (message_zeros y img) _ transactors.1 in
    let opened = both (leb (unpack y img).opened (unpack y img).limits.transactors) _ messages.1 in
    let waiting = both (leb (length (unpack y img).messages) (unpack y img).limits.messages) _ opened.1 in
    let status = each y.transactors (status_right (unpack y img)) _ waiting.1 in
    let own = each y.transactors (own_held (unpack y img)) _ status.1 in
    let saved = each y.transactors (saved_right (unpack y img)) _ own.1 in
    let idle = each y.transactors (idle_right y img) _ saved.1 in
    let vanished = each y.transactors (annihilated_right y img) _ idle.1 in
    let gap = each y.messages (no_gap y img) _ vanished.1 in
    let order = each y.messages (in_order (unpack y img)) _ gap.1 in
    let number = each y.messages (number_right (unpack y img)) _ order.1 in
    record {
      zero = eqb-true (get_or img 3 0) 0 zero.0;
      fourth = fourth.0;
      limits = limits.0;
      transactors = transactors.0;
      messages = messages.0;
      opened = leb-true (unpack y img).opened (unpack y img).limits.transactors opened.0;
      waiting = leb-true (length (unpack y img).messages) (unpack y img).limits.messages waiting.0;
      status = status.0;
      own = own.0;
      saved = saved.0;
      idle = idle.0;
      vanished = vanished.0;
      gap = gap.0;
      order = order.0;
      number = number.0;
      addressee = λ k. every-at (addressee_right (unpack y img)) y.messages k number.1;
    }

pub clauses-all : (y : Layout) (img : List ℕ) → Clauses y img → well_formed y img ≡ true
unfolding well_formed
clauses-all y img c = rw (
  eq-eqb (get_or img 3 0) 0 c.zero,
  c.fourth,
  c.limits,
  every-all (transactor_zeros y img) y.transactors c.transactors,
  every-all (message_zeros y img) y.messages c.messages,
  le-leb (unpack y img).opened (unpack y img).limits.transactors c.opened,
  le-leb (length (unpack y img).messages) (unpack y img).limits.messages c.waiting,
  every-all (status_right (unpack y img)) y.transactors c.status,
  every-all (own_held (unpack y img)) y.transactors c.own,
  every-all (saved_right (unpack y img)) y.transactors c.saved,
  every-all (idle_right y img) y.transactors c.idle,
  every-all (annihilated_right y img) y.transactors c.vanished,
  every-all (no_gap y img) y.messages c.gap,
  every-all (in_order (unpack y img)) y.messages c.order,
  every-all (number_right (unpack y img)) y.messages c.number,
  every-all (addressee_right (unpack y img)) y.messages c.addressee,
)
