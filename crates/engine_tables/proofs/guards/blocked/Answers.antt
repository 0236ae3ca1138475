-- Any of the numbers below the count, as std's `any` finds it, is any named one.
use Rattle.std.proofs.Common.{◌≡◌, rules, tests}
use Rattle.std.specs.List.{list_any, range_with_len}
use Rattle.std.proofs.lemmas.Iterator.{YieldsList-from_range}
use Rattle.std.proofs.lemmas.Iterator.Search.{any_from_yields_List}
use Rattle.engine_tables.proofs.Guarding.{is-gone, has-all, gone-ranged, full-ranged, free-ranged}
use Rattle.engine_tables.proofs.guards.blocked.Goals as goal

pub returns-then-any : goal.returns-then-any
returns-then-any c =
    let gone : c.any.result ≡ list_any (is-gone c.args.rows c.args.group) (range_with_len 0 16) = any_from_yields_List (is-gone c.args.rows c.args.group) _ _ c.any.result c.any.ensures.ran (YieldsList-from_range 0 16 16 (search rules) (search rules)) (λ x b q k. search (rules, tests)) in
    gone-ranged c.args.rows c.args.group c.args.most _ gone c.if-any.true

pub returns-then-any-2 : goal.returns-then-any-2
returns-then-any-2 c =
    let gone : c.any.result ≡ list_any (is-gone c.args.rows c.args.group) (range_with_len 0 16) = any_from_yields_List (is-gone c.args.rows c.args.group) _ _ c.any.result c.any.ensures.ran (YieldsList-from_range 0 16 16 (search rules) (search rules)) (λ x b q k. search (rules, tests)) in
    let full : c.any-2.result ≡ list_any (has-all c.args.rows c.args.group c.args.most) (range_with_len 0 16) = any_from_yields_List (has-all c.args.rows c.args.group c.args.most) _ _ c.any-2.result c.any-2.ensures.ran (YieldsList-from_range 0 16 16 (search rules) (search rules)) (λ x b q k. search (rules, tests)) in
    full-ranged c.args.rows c.args.group c.args.most _ gone c.if-any.false _ full c.if-any-2.true

pub returns : goal.returns
returns c =
    let gone : c.any.result ≡ list_any (is-gone c.args.rows c.args.group) (range_with_len 0 16) = any_from_yields_List (is-gone c.args.rows c.args.group) _ _ c.any.result c.any.ensures.ran (YieldsList-from_range 0 16 16 (search rules) (search rules)) (λ x b q k. search (rules, tests)) in
    let full : c.any-2.result ≡ list_any (has-all c.args.rows c.args.group c.args.most) (range_with_len 0 16) = any_from_yields_List (has-all c.args.rows c.args.group c.args.most) _ _ c.any-2.result c.any-2.ensures.ran (YieldsList-from_range 0 16 16 (search rules) (search rules)) (λ x b q k. search (rules, tests)) in
    free-ranged c.args.rows c.args.group c.args.most _ gone c.if-any.false _ full c.if-any-2.false
