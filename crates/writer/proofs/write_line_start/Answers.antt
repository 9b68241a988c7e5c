-- `writer::write_line_start` meets its contract. Assumes nothing.
use Rattle.std.proofs.Common.{arith, ap, List, ℕ, ◌++◌, drop, length-take-le}
use Rattle.writer.specs.Text.{line_start}
use Rattle.writer.proofs.Lines.{start-room, start_wrote}
use Rattle.writer.proofs.write_line_start.Goals as goal

pub slice_bounds-copy_from_slice-end : goal.slice_bounds-copy_from_slice-end
slice_bounds-copy_from_slice-end c = start-room c.requires

pub slice_bounds-copy_from_slice-end-2 : goal.slice_bounds-copy_from_slice-end-2
slice_bounds-copy_from_slice-end-2 c = omega (arith, length-take-le 6 c.args.out.now (start-room c.requires))

pub copy_from_slice-requires : goal.copy_from_slice-requires
copy_from_slice-requires c = length-take-le 6 c.args.out.now (start-room c.requires)

pub returns : goal.returns
unfolding line_start
returns c = start_wrote _ _ (ap (λ (l : List ℕ). l ++ drop 6 c.args.out.now) c.copy_from_slice.ensures.after)
