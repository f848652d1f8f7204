use Rattle.std.proofs.Common.{◌+◌, [], ◌∷◌, length, refl}
use Rattle.order_writer.proofs.Pasting.{line-bytes, line-put}
use Rattle.order_writer.proofs.output.Output.put_record.Goals as goal

pub returns : goal.returns
returns c =
    let body = c.args.body.now in
    let long = 2 + length body in
    let number = c.into.result in
    line-put {a = c.args.self.now} c.args.kind body (long ∷ 0 ∷ number ∷ 0 ∷ []) body
    (line-bytes c.args.kind body long number c.requires.short refl c.into.ensures) c.requires.short c.put_bytes.ensures c.put_bytes-2.ensures
