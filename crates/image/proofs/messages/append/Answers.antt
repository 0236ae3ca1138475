-- The fields of the message are put one after the other, then what the take carries, then the next number.
use Rattle.std.proofs.Common.{refl, ◌∙◌, arith}
use Rattle.rules.specs.Layout.{base, message_address}
use Rattle.rules.proofs.Pack.Exact.{creation-ok, behaviour-ok, behaviour-exact-there, carried-there}
use Rattle.rules.proofs.Pack.Messages.{fields-before, append-image}
use Rattle.image.proofs.messages.append.Goals as goal

pub join_to-requires : goal.join_to-requires
join_to-requires c =
    let a = message_address base c.args.n in
    let good = c.requires.0 in
    let same = fields-before base _ good.long good.back _ c.requires.1 _ _ _ _ c.requires.2 c.requires.3 c.store_fields.ensures in
    let ok = good.well.packable.transactors c.args.t c.requires.5 in (
      omega arith,
      omega arith,
      omega arith,
      omega (arith, c.store_fields.auto.image, good.long),
      c.requires.5,
      creation-ok base _ good.back c.args.t c.requires.5 _ a (omega arith) same ok.creation,
      behaviour-ok base _ good.back c.args.t c.requires.5 _ a (omega arith) same ok.behaviour,
      behaviour-exact-there base _ good.back c.args.t c.requires.5 _ a (omega arith) same,
    )

pub returns : goal.returns
returns c =
    let a = message_address base c.args.n in
    let good = c.requires.0 in
    let same = fields-before base _ good.long good.back _ c.requires.1 _ _ _ _ c.requires.2 c.requires.3 c.store_fields.ensures in
    append-image base _ good.long good.back _ c.requires.1 _ _ _ _ _ _ _ _ c.requires.2 c.requires.3
    c.next-number.ensures refl c.store_fields.ensures
    (c.join_to.ensures ∙ rw (c.own_at-own.ensures, carried-there base _ good.back c.args.t c.requires.5 _ a (omega arith) same (omega arith)))
    c.store16.ensures
