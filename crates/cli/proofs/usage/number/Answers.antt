use Rattle.std.proofs.Common.{◌≡◌, true, ◌∙◌, rules, tests}
use Rattle.text.specs.Number.{plain}
use Rattle.cli.proofs.WordNumbers.{number_read}
use Rattle.cli.proofs.usage.number.Goals as goal

pub returns-then-is_positive-clause-value : goal.returns-then-is_positive-clause-value
returns-then-is_positive-clause-value c =
    let p : plain c.args.word.now ≡ true = search (rules, tests) in
    c.unwrap_or.ensures ∙ number_read c.args.word.now c.parse.result p c.parse.ensures.value.0
