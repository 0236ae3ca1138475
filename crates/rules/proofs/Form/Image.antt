-- What the form says of an image, transactor by transactor and message by message.
use Prim.Native.Nat.{ℕ, ◌≤◌, ◌<◌}
use mathlib.Core.Bool.{true}
use mathlib.Core.Path.{◌≡◌}
use mathlib.Core.List.{List}
use lib.ListN.{length, get_or}
use Rattle.octets.specs.Bytes.{Octets}
use Rattle.rules.specs.Layout.{Layout, in_range, image_bytes}
use Rattle.rules.specs.Pack.{unpack}
use Rattle.rules.specs.Form.{limits_zero, well_formed}
use Rattle.rules.proofs.Form.Clauses.{clauses-of, clauses-all}
use Rattle.rules.proofs.Pack.Loads.{length-transactor_part}
use Rattle.rules.proofs.Form.Transactor.{TransactorFormAt, TransactorClauses, transactor-form, transactor-clauses}
use Rattle.rules.proofs.Form.Message.{MessagesForm, messages-form, messages-clauses}

pub record ImageForm (y : Layout) (img : List ℕ) : Type 0 where
  pub zero : get_or img 3 0 ≡ 0
  pub fourth : limits_zero y img ≡ true
  pub limits : in_range y (unpack y img).limits ≡ true
  pub opened : (unpack y img).opened ≤ (unpack y img).limits.transactors
  pub waiting : length (unpack y img).messages ≤ (unpack y img).limits.messages
  pub transactors : (t : ℕ) → t < y.transactors → TransactorFormAt y img t
  pub messages : MessagesForm y img

module _ (y : Layout) (img : List ℕ) where
  pub form-image : Octets img → well_formed y img ≡ true → ImageForm y img
  form-image o e =
      let c = clauses-of y img e in
      record {
        zero = c.zero;
        fourth = c.fourth;
        limits = c.limits;
        opened = c.opened;
        waiting = c.waiting;
        transactors = λ t h. transactor-form y img t o h
            (record { zeros = c.transactors t h; status = c.status t h; own = c.own t h; saved = c.saved t h; idle = c.idle t h; vanished = c.vanished t h });
        messages = messages-form y img (record { zeros = c.messages; gap = c.gap; order = c.order; number = c.number; addressee = c.addressee });
      }

  pub image-form : length img ≡ image_bytes y → ImageForm y img → well_formed y img ≡ true
  image-form n f =
      let a : (t : ℕ) → t < y.transactors → TransactorClauses y img t = λ t h. transactor-clauses y img t (length-transactor_part y img n t h) (f.transactors t h) in
      let m = messages-clauses y img n f.messages in
      clauses-all y img (record {
        zero = f.zero;
        fourth = f.fourth;
        limits = f.limits;
        transactors = λ t h. (a t h).zeros;
        messages = m.zeros;
        opened = f.opened;
        waiting = f.waiting;
        status = λ t h. (a t h).status;
        own = λ t h. (a t h).own;
        saved = λ t h. (a t h).saved;
        idle = λ t h. (a t h).idle;
        vanished = λ t h. (a t h).vanished;
        gap = m.gap;
        order = m.order;
        number = m.number;
        addressee = m.addressee;
      })
