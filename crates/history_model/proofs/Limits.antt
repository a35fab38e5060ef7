-- Whether an entry passes the first of some limits.
use Rattle.std.{proofs.Common.{◌≡◌, ◌<◌, ◌≤◌, List, [], ◌∷◌, ◌++◌, arith}, specs.Prelude.Some, proofs.lemmas.Grind.common_steps}
use Rattle.metric_table.specs.{declared.limits.Limit.Limit, Limits.most}
use Rattle.history_model.specs.{declared.entries.Entry.Entry, Allowed.{count_of, first_passed}}

pub passed-is : (limit : Limit) (limits : List Limit) (h : List Entry) (e : Entry) → most limit < count_of limit (h ++ e ∷ []) → first_passed (limit ∷ limits) h e ≡ Some limit
passed-is limit limits h e passed = grind (arith, common_steps)

pub kept-is : (limit : Limit) (limits : List Limit) (h : List Entry) (e : Entry) → count_of limit (h ++ e ∷ []) ≤ most limit → first_passed (limit ∷ limits) h e ≡ first_passed limits h e
kept-is limit limits h e kept = grind (arith, common_steps)
