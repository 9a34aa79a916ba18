-- What was said of a command before A1, "Compare while verifying": document 01's sentences, where that request has changed a definition. A
-- command that does not compare is still answered so: `demands: Before.as_before`. What no sentence of A1 touches is taken as it stands.
use Rattle.std.specs.Prelude.{Ok, Err, ℕ, Bool, true, false, not, cond, List, eqb, length}
use Rattle.answer.specs.Answer.{is_good, or_else, refused_if, Answer}
use Rattle.answer.specs.Outcome.{Outcome, outcome, leaving}
use Rattle.answer.specs.Answer as answers
use Rattle.answer.specs.declared.Reason.TheVariants as reasons
use Rattle.segment.specs.declared.Description.{Description}
use Rattle.segment.specs.Rules.{segment_rules}
use Rattle.segment.specs.Places.{range_rule}
use Rattle.command.specs.declared.Command.{Command}
use Rattle.command.specs.declared.Operation.{Operation}
use Rattle.command.specs.declared.Operation.TheVariants.{Read, Write, Verify}
use Rattle.command.specs.Compares.{is_verify}
use Rattle.decoding.specs.Commands.{decode, Decoded}
use Rattle.judge.specs.Judge.{judge_blocks}
use Rattle.sides.specs.declared.Side.{Side}
use Rattle.sides.specs.declared.Side.TheVariants.{Sent, Stored}
use Rattle.rules.specs.Rules.{rules_of, start_of}
use Rattle.refusal.specs.Refusal.{type_rules, code_rule, moved_of, size_rule}
use Rattle.execute.specs.Lent.{Lent}
use Rattle.execute.specs.Execute.{under_check, moved}

-- "VERIFY has byte-check bits 2-1 of the protect byte; they must be 0."
unfoldable pub check_rule : Command → Answer
check_rule c = refused_if (not (eqb c.check 0)) reasons.FieldInvalid

-- "VERIFY's buffer has 0 bytes."
unfoldable pub buffer_of : Description → Command → ℕ
buffer_of d c = cond (is_verify c.operation) 0 (moved_of d c)

-- "type rules; protect code 110 or 111 6; byte-check bits 6; address .. 7; 14; 4"
unfoldable pub refusal : Description → Command → ℕ → Answer
refusal d c buffer =
    or_else (type_rules d c)
    (or_else (code_rule c)
    (or_else (check_rule c)
    (or_else (range_rule d c.address c.length)
    (or_else (size_rule d c) (refused_if (not (eqb buffer (buffer_of d c))) reasons.BufferLengthWrong)))))

-- "READ and VERIFY check the stored intervals. WRITE checks the incoming ones for codes other than 000; for 000 it has none"
abbrev pub checks_on : Side → Operation → Command → Bool
checks_on Sent Read c = false
checks_on Sent Write c = not (eqb c.code 0)
checks_on Sent Verify c = false
checks_on Stored Read c = true
checks_on Stored Write c = false
checks_on Stored Verify c = true

-- "Type 0 checks nothing."
unfoldable pub checked_on : Side → Description → Command → ℕ
checked_on side d c = cond (eqb d.kind 0) 0 (cond (checks_on side c.operation c) c.length 0)

unfoldable pub judged_on : Side → Description → Command → Lent → Answer
judged_on side d c l = judge_blocks (rules_of side d c) (checked_on side d c) (start_of d c) (under_check side d c l)

-- judged, and only then moved
unfoldable pub performed : Description → Command → Lent → Outcome Lent
performed d c l = leaving (or_else (judged_on Sent d c l) (judged_on Stored d c l)) l (moved d c l)

abbrev pub executed_as : Description → Decoded → Lent → Outcome Lent
executed_as d (Ok c) l =
    cond (is_good (refusal d c (length l.buffer))) (performed d c l) (outcome (refusal d c (length l.buffer)) l)
executed_as d (Err r) l = outcome (answers.refused r) l

-- "1; 2", then the command's bytes, then its fields
unfoldable pub executed : Description → List ℕ → Lent → Outcome Lent
executed d command l =
    cond (is_good (segment_rules d (length l.segment))) (executed_as d (decode command) l) (outcome (segment_rules d (length l.segment)) l)
