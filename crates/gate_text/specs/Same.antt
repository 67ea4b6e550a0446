-- Settings that the test of `same_settings` passes are equal. For proofs of the crates above.
use Rattle.std.specs.Prelude.{◌≡◌, ℕ, nat_eq, true, List, Option, Some, None}
use Rattle.std.proofs.Common.{refl, ap}
use Rattle.std.proofs.lemmas.Bool.Decides.{Decides-eqb}
use Rattle.std.proofs.lemmas.Slice.Eq.{bytes_eq-Decides, slice_eq-Decides}
use Rattle.std.specs.Cmp.{first_so, second_so}
use Rattle.std.specs.Cmp.Lexicographic.{pointwise}
use Rattle.std.specs.Option.{option_eq}
use Rattle.gate_text.specs.Settings.{SettingsView, same_settings}

same_texts : (xs ys : List (List ℕ)) → pointwise (pointwise nat_eq) xs ys ≡ true → xs ≡ ys
same_texts xs ys same = (slice_eq-Decides bytes_eq-Decides xs ys _ refl).0 same

same_limit : (x y : Option ℕ) → option_eq nat_eq x y ≡ true → x ≡ y
same_limit None None same = refl
same_limit None (Some y) same = cc same
same_limit (Some x) None same = cc same
same_limit (Some x) (Some y) same = ap Some ((Decides-eqb x y).0 same)

pub same_settings-is : (one other : SettingsView) → same_settings one other ≡ true → one ≡ other
same_settings-is one other same =
    let after_status = second_so (pointwise (pointwise nat_eq) one.status other.status) _ same in
    let after_timeout = second_so (nat_eq one.timeout_sec other.timeout_sec) _ after_status in
    let after_labels = second_so (pointwise (pointwise nat_eq) one.block_labels other.block_labels) _ after_timeout in
    let status = same_texts one.status other.status (first_so (pointwise (pointwise nat_eq) one.status other.status) _ same) in
    let timeout = (Decides-eqb one.timeout_sec other.timeout_sec).0 (first_so (nat_eq one.timeout_sec other.timeout_sec) _ after_status) in
    let labels = same_texts one.block_labels other.block_labels (first_so (pointwise (pointwise nat_eq) one.block_labels other.block_labels) _ after_timeout) in
    let approvals = (Decides-eqb one.required_approvals other.required_approvals).0 (first_so (nat_eq one.required_approvals other.required_approvals) _ after_labels) in
    let after_approvals = second_so (nat_eq one.required_approvals other.required_approvals) _ after_labels in
    let size = same_limit one.max_batch_size other.max_batch_size (first_so (option_eq nat_eq one.max_batch_size other.max_batch_size) _ after_approvals) in
    let pr_status = same_texts one.pr_status other.pr_status (second_so (option_eq nat_eq one.max_batch_size other.max_batch_size) _ after_approvals) in
    λ i. record { status = status i; timeout_sec = timeout i; block_labels = labels i; required_approvals = approvals i; max_batch_size = size i; pr_status = pr_status i }
