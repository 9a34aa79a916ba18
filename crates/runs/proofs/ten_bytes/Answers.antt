-- `runs::ten_bytes`: the buffer is lent only where it has room.
use mathlib.Core.Path.{sym}
use lib.Seq.{length-take-le}
use borrow.Author.Rules.{rules}
use Rattle.runs.proofs.ten_bytes.Goals as goal

pub slice_bounds-buffer-end : goal.slice_bounds-buffer-end
slice_bounds-buffer-end c = search rules

pub slice_bounds-on_m-end-then-room-le32 : goal.slice_bounds-on_m-end-then-room-le32
slice_bounds-on_m-end-then-room-le32 c = sym (length-take-le _ _ (search rules))
