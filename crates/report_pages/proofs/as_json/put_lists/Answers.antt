use Rattle.std.proofs.Common.{codes, map}
use Rattle.json.specs.Print.{quoted}
use Rattle.serde_json.specs.{Data.array, View.items_of, Written.compact_text}
use Rattle.report_pages.{specs.Json.{job_data, regression_data, series_data}, proofs.Joined.lists_behind}
use Rattle.report_pages.proofs.as_json.put_lists.Goals as goal

-- what the calls appended, one after another
pub returns : goal.returns
returns c =
    let p = c.args.pages.now in
    rw (c.in_ok-put_items-3.ensures, c.in_ok-put_bytes-4.ensures, c.in_ok-put_items-2.ensures, c.in_ok-put_bytes-3.ensures, c.in_ok-put_quoted.ensures, c.in_ok-put_bytes-2.ensures, c.in_ok-put_items.ensures, c.in_ok-put_bytes.ensures, c.as_slice.ensures, c.as_str.ensures, c.as_slice-2.ensures, c.as_slice-3.ensures)
    (lists_behind c.args.out.now.items (codes "{\"jobs\":") (compact_text (array (items_of (map job_data p.jobs)))) (codes ",\"machine\":") (quoted p.machine)
    (codes ",\"regressions\":") (compact_text (array (items_of (map regression_data p.regressions)))) (codes ",\"series\":") (compact_text (array (items_of (map series_data p.series)))))
