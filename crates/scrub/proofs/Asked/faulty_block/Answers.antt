-- `scrub::Asked::faulty_block`: a READ of the one block expects of it what is expected at its place in the segment.
use Rattle.std.proofs.Common.{◌≡◌, ℕ, ◌+◌, Bool, not, List, length, sym, ap, ◌∙◌, arith}
use Rattle.answer.specs.Answer.{is_good}
use Rattle.segment.specs.declared.Description.{Description}
use Rattle.segment.specs.Segment.{IsSegment, stored_of}
use Rattle.segment.proofs.Laws.{stored_intervals, sizes}
use Rattle.command.specs.declared.Command.{Command}
use Rattle.command.specs.declared.Operation.TheVariants.{Read}
use Rattle.command.specs.Sixteen.{sixteen}
use Rattle.interval.specs.declared.Rules.{Rules}
use Rattle.interval.specs.declared.Place.{Place}
use Rattle.judge.specs.Judge.{judge_block, Stretch}
use Rattle.judge.proofs.Alike.{block_alike}
use Rattle.rules.specs.Rules.{rules_of, start_of}
use Rattle.rules.specs.Intervals.{place_at}
use Rattle.rules.specs.ReadAll.{read_all}
use Rattle.scrub.specs.Onward.{AsListed}
use Rattle.scrub.proofs.Judging.{own_tag}
use Rattle.scrub.proofs.Asked.faulty_block.Goals as goal

module _ {r : Rules} {d : Description} (l : AsListed r d) (g : IsSegment d) (s : List ℕ) (at : ℕ) {c : Command} {p : Place} (ec : c ≡ sixteen Read (d.first + at) 1) (ep : p ≡ start_of d c) where
  fits : length s ≡ stored_of d → Stretch r r.intervals p s
  unfolding rules_of start_of
  fits whole =
      rw (l.rules, ep)
      (record { whole = sym (stored_intervals d g l.not_zero) ∙ sym whole; intervals = omega (arith, (sizes d g).intervals_most) })

  told : {x : Bool} → x ≡ not (is_good (judge_block r p s)) → x ≡ not (is_good (judge_block r (place_at d (read_all d) at 0) s))
  told e = e ∙ rw (l.rules, ep, ec) (ap not (block_alike _ _ _ s (own_tag d g at)))

pub faulty_intervals-requires : goal.faulty_intervals-requires
faulty_intervals-requires c =
    fits c.args.self.as_listed c.args.self.segment.is _ _ c.sixteen.ensures c.start-p.ensures c.requires.1

pub returns : goal.returns
returns c =
    told c.args.self.as_listed c.args.self.segment.is c.args.s.now _ c.sixteen.ensures c.start-p.ensures c.faulty_intervals.ensures
