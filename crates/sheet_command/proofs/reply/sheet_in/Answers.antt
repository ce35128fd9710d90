use Rattle.std.proofs.Common.{rules}
use Rattle.sheet_command.proofs.reply.sheet_in.Goals as goal

pub returns : goal.returns
returns c =
    record {
      round = c.in_ok-round.round;
      read = search rules;
      sheet = search rules;
      holds = search rules;
      records = search rules;
    }
