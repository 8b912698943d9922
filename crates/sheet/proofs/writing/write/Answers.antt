-- `sheet::writing::write` meets its contract: the text, copied where it fits. Assumes nothing.
use Rattle.std.proofs.Common.{sym, subst, refl, ◌∙◌, ◌++◌, drop, List, ℕ, Ok}
use lib.Seq.{length-take-le}
use Rattle.sheet.specs.Sheet.{SheetWritten}
use Rattle.sheet.proofs.Sheets.{within_array, copied}
use Rattle.sheet.proofs.writing.write.Goals as goal

pub slice_bounds-longest-end : goal.slice_bounds-longest-end
slice_bounds-longest-end c = within_array c.args.k _ _ c.written-n.result (sym c.is_legal.ensures ∙ c.if-not-is_legal.false) refl c.written-n.ensures

pub slice_bounds-copy_from_slice-end-3 : goal.slice_bounds-copy_from_slice-end-3
slice_bounds-copy_from_slice-end-3 c = sym (length-take-le c.written-n.result _ (within_array c.args.k _ _ c.written-n.result (sym c.is_legal.ensures ∙ c.if-not-is_legal.false) refl c.written-n.ensures))

pub copy_from_slice-requires : goal.copy_from_slice-requires
copy_from_slice-requires c =
    length-take-le c.written-n.result c.args.out.now c.if-out-n.false
    ∙ sym (length-take-le c.written-n.result _ (within_array c.args.k _ _ c.written-n.result (sym c.is_legal.ensures ∙ c.if-not-is_legal.false) refl c.written-n.ensures))

pub returns : goal.returns
returns c =
    subst (λ (t : List ℕ). SheetWritten c.args.k c.args.out.now (Ok c.written-n.result) (t ++ drop c.written-n.result c.args.out.now)) (sym c.copy_from_slice.ensures.after)
    (copied c.args.k _ _ c.args.out.now c.written-n.result (sym c.is_legal.ensures ∙ c.if-not-is_legal.false) refl c.written-n.ensures c.if-out-n.false)
