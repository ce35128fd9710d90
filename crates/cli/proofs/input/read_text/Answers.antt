use Rattle.cli.proofs.Beginnings.{read_through, enough}
use Rattle.cli.proofs.input.read_text.Goals as goal

pub returns : goal.returns
returns g c =
    let first =
    read_through g.R.Read.remaining c.args.reader c.take.result c.new-bytes.result.items c.read_to_end.new.buf.items c.take.ensures.limit c.take.ensures.inner c.new-bytes.ensures.items c.in_ok-read_to_end.ensures.bytes in
    record { first = first; enough = enough _ _ first }
