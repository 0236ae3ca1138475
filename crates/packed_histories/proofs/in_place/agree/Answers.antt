-- Few places one by one; else the first eight, then the last eight.
use Rattle.std.proofs.Common.{◌∙◌, sym, rules}
use Rattle.octets.proofs.Put.{octets-of}
use Rattle.packed_histories.proofs.Wide.{wide-first, wide-last}
use Rattle.packed_histories.proofs.in_place.agree.Goals as goal

pub returns-then-same16 : goal.returns-then-same16
returns-then-same16 c =
    c.same16-then-same16.ensures
    ∙ wide-last _ (octets-of _ c.type_inv.s) c.args.a c.args.b (search rules) (search rules) c.args.n (search rules) (search rules) (sym c.same16.ensures ∙ c.if-same16.true)

pub returns-else-same16 : goal.returns-else-same16
returns-else-same16 c =
    c.if-same16.false
    ∙ wide-first _ (octets-of _ c.type_inv.s) c.args.a c.args.b (search rules) (search rules) c.args.n (search rules) (search rules) (sym c.same16.ensures ∙ c.if-same16.false)
