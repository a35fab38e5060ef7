use Rattle.std.proofs.Common.{◌++◌, List, ℕ, ap}
use Rattle.report_pages.proofs.Joined.{whole_text}
use Rattle.report_pages.proofs.as_json.put_json.Goals as goal

-- the parts make the whole
pub returns-clause-ok : goal.returns-clause-ok
returns-clause-ok c =
    rw (c.in_ok-extend_from_slice.ensures.items, c.deref.ensures.value, c.in_ok-put_bytes-2.ensures, c.in_ok-put_u64.ensures.ok, c.in_ok-put_bytes.ensures, c.in_ok-put_lists.ensures, c.new-text.ensures.items)
    (ap (λ (l : List ℕ). c.args.out.now.items ++ l) (whole_text c.args.pages.now))
