use Rattle.std.proofs.Common.{◌≡◌, rules, bytes_eq, refl}
use Rattle.std.specs.List.{position}
use Rattle.std.proofs.lemmas.Iterator.{YieldsList-from_slice}
use Rattle.std.proofs.lemmas.Iterator.Search.{position_from_yields_List}
use Rattle.kinds.specs.declared.TheConstants.{NAMES}
use Rattle.kinds.proofs.Rows.{same_name, row-found}
use Rattle.kinds.proofs.row_named.Goals as goal

pub returns : goal.returns
returns c =
    let e : c.position.result ≡ position (λ b. bytes_eq b.now c.args.w.now) NAMES = position_from_yields_List (λ b. bytes_eq b.now c.args.w.now) _ _ c.position.result c.position.ensures.ran (YieldsList-from_slice _ c.iter.ensures.rest) (λ x b q k. search (rules, same_name)) in
    row-found (λ b. b.now) c.args.w.now NAMES c.position.result e refl
