-- `decoding::decode`: what the bytes name is decoded; what they do not name is refused.
use mathlib.Core.Path.{sym, ◌∙◌}
use Rattle.std.proofs.lemmas.Result.{err_from_is_err_and}
use Rattle.decoding.proofs.Laws.{decode_known, decode_unknown}
use Rattle.decoding.proofs.decode.Goals as goal

pub returns-in_err-o : goal.returns-in_err-o
returns-in_err-o c =
    let p = err_from_is_err_and c.from_residual.result c.from_residual.ensures.1 in
    rw (p.1, p.2) (sym (decode_unknown _ (sym c.recognise.ensures ∙ c.in_err-o.was)))

pub returns : goal.returns
returns c = c.decode_as.ensures ∙ sym (decode_known _ (sym c.recognise.ensures ∙ c.in_ok-o.was))
