use Rattle.std.proofs.Common.{◌+◌, sym, subst, slice_range, ℕ, List}
use Rattle.json_text.{specs.Reached.ReadsText, proofs.Reach.{plain_read, text_read}}
use Rattle.json_text.proofs.token.read_content.Goals as goal

pub returns-then-bytes-end-eq34-clause-reads : goal.returns-then-bytes-end-eq34-clause-reads
returns-then-bytes-end-eq34-clause-reads c =
    let end = c.run_end-end in
    let plain = plain_read c.as_bytes-bytes.result.now c.args.place.now end.result end.ensures.within.0 end.ensures.within.1 end.ensures.run in
    let read = text_read c.as_bytes-bytes.result.now c.args.place.now end.result _ plain c.if-end-bytes.true c.if-bytes-end-eq34.true in
    subst (ReadsText c.args.text.now c.args.place.now (end.result + 1)) (sym c.in_ok-part.ensures)
    (subst (λ (bytes : List ℕ). ReadsText bytes c.args.place.now (end.result + 1) (slice_range bytes c.args.place.now end.result)) c.as_bytes-bytes.ensures.value read)
