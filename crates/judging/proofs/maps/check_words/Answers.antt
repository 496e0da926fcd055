use Rattle.std.proofs.Common.{sym, ap, ◌∙◌}
use Rattle.records.specs.Told.{run_tells}
use Rattle.judging.proofs.Verdicts.{told_from}
use Rattle.judging.proofs.Under.{map_first, words_lent}
use Rattle.judging.proofs.maps.check_words.Goals as goal

pub returns-then-not-is_map : goal.returns-then-not-is_map
returns-then-not-is_map c =
    told_from c.from.ensures
    ∙ sym (ap run_tells (map_first c.args.map.now c.args.dict.now (sym c.is_map.ensures ∙ c.if-not-is_map.true)))

pub returns : goal.returns
returns c =
    c.check_dictionary.ensures ∙ sym (ap run_tells (words_lent c.args.map.now c.args.dict.now (sym c.is_map.ensures ∙ c.if-not-is_map.false)))
