-- `sheet_line::reading::read_line` meets its contract: the value that was found, written back and compared. Assumes nothing.
use Rattle.std.proofs.Common.{arith, sym, ◌∙◌, drop, refl, length-drop}
use Rattle.std.proofs.lemmas.Option.{none-some}
use lib.Seq.{length-take-le}
use Rattle.sheet_line.proofs.Places.{line_within, from_place, line_in_array, line_written, line_within_bytes, line_read, line_found}
use Rattle.words.proofs.Tests.{false_true, and_left, and_right, and_true}
use Rattle.sheet_line.proofs.reading.read_line.Goals as goal

pub returns-in_err-rest : goal.returns-in_err-rest
returns-in_err-rest c = rw c.from_residual.ensures (λ line x. let l = line_within c.args.setting line.value (drop c.args.at c.args.s.now) _ x.same in let past = c.in_err-rest.ensures.lookup in grind (arith, l, past, length-drop))

pub returns-in_err-value : goal.returns-in_err-value
returns-in_err-value c = rw c.from_residual-in_err-value.ensures (λ line x. let there = from_place c.args.s.now c.in_ok-rest.rest.now c.args.at c.args.at c.in_ok-rest.ensures.lookup.0.2 refl in none-some line.value (c.in_err-value.ensures line.value _ x.legal (there ∙ x.same)))

pub slice_bounds-text-end : goal.slice_bounds-text-end
slice_bounds-text-end c = line_in_array c.args.setting _ _ c.in_ok-value.value c.written-n.result refl c.written-n.ensures

pub slice_bounds-starts_with-end : goal.slice_bounds-starts_with-end
slice_bounds-starts_with-end c = sym (length-take-le c.written-n.result _ (line_in_array c.args.setting _ _ c.in_ok-value.value c.written-n.result refl c.written-n.ensures))

pub overflow_add-result : goal.overflow_add-result
overflow_add-result c =
    let there = from_place c.args.s.now c.in_ok-rest.rest.now c.args.at c.args.at c.in_ok-rest.ensures.lookup.0.2 refl in
    let text = line_written c.args.setting _ _ c.in_ok-value.value c.written-n.result refl c.written-n.ensures in
    let within = line_within_bytes c.args.setting c.args.s.now c.in_ok-rest.rest.now _ c.args.at c.in_ok-value.value c.written-n.result there text c.in_ok-rest.ensures.lookup.0.0 (sym c.starts_with-same.ensures.value ∙ and_right c.may_hold.result c.starts_with-same.result c.if-may_hold-same.true) in
    let g = c.well_formed.0.0 in
    record { fits = omega (arith, g, within) }

pub returns-then-may_hold-same : goal.returns-then-may_hold-same
returns-then-may_hold-same c =
    let there = from_place c.args.s.now c.in_ok-rest.rest.now c.args.at c.args.at c.in_ok-rest.ensures.lookup.0.2 refl in
    let text = line_written c.args.setting _ _ c.in_ok-value.value c.written-n.result refl c.written-n.ensures in
    let legal = and_left c.may_hold.result c.starts_with-same.result c.if-may_hold-same.true in
    let same = and_right c.may_hold.result c.starts_with-same.result c.if-may_hold-same.true in
    line_read c.args.setting c.args.s.now c.in_ok-rest.rest.now _ c.args.at c.in_ok-value.value c.written-n.result there text c.in_ok-rest.ensures.lookup.0.0 (sym c.may_hold.ensures ∙ legal) (sym c.starts_with-same.ensures.value ∙ same)

pub returns-else-may_hold-same : goal.returns-else-may_hold-same
returns-else-may_hold-same c = λ line x.
    (let there = from_place c.args.s.now c.in_ok-rest.rest.now c.args.at c.args.at c.in_ok-rest.ensures.lookup.0.2 refl in
    let text = line_written c.args.setting _ _ c.in_ok-value.value c.written-n.result refl c.written-n.ensures in
    let found = line_found c.args.setting c.args.s.now c.in_ok-rest.rest.now _ c.args.at c.in_ok-value.value c.written-n.result there text c.in_ok-value.ensures line x in
    false_true (sym (and_true c.may_hold.result c.starts_with-same.result (c.may_hold.ensures ∙ found.0) (c.starts_with-same.ensures.value ∙ found.1)) ∙ c.if-may_hold-same.false))
