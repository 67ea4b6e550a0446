-- Setting a role lets every entry be that of a member.
use Rattle.std.proofs.Common.{◌≡◌, ℕ, List, [], Bool, true, false, cond, Option, Some, None, IfSome, sym, subst}
use Rattle.std.specs.Cmp.Lexicographic.{slice_cmp, nat_list_cmp_total}
use Rattle.std.specs.FinMap as map
use Rattle.std.specs.FinMap.{FinMap}
use Rattle.std.specs.Ordering.{eq_by_cmp, nat_cmp}
use Rattle.gate_rules.specs.Rules.{is_member}
use Rattle.gate_rules.specs.View.{AreMembers}
use Rattle.gate_rules.specs.declared.role.Role.{Role}

abbrev pub IsMemberIfAny : Option Role → Type 0
IsMemberIfAny found = IfSome found (λ role. is_member role ≡ true)

either : (b : Bool) (one other : Option Role) → IsMemberIfAny one → IsMemberIfAny other → IsMemberIfAny (cond b one other)
either true one other first second = first
either false one other first second = second

module _ (roles : FinMap (slice_cmp nat_cmp) Role) (person : List ℕ) (are : AreMembers roles) where
  pub members-insert : (role : Role) → is_member role ≡ true → AreMembers (map.insert roles person role)
  members-insert role is other =
      subst IsMemberIfAny (sym (map.get-insert nat_list_cmp_total roles person role other))
      (either (eq_by_cmp (slice_cmp nat_cmp) other person) (Some role) (map.get roles other) is (are other))

  pub members-remove : AreMembers (map.remove roles person)
  members-remove other =
      subst IsMemberIfAny (sym (map.get-remove nat_list_cmp_total roles person other))
      (either (eq_by_cmp (slice_cmp nat_cmp) other person) None (map.get roles other) tt (are other))

pub members-empty : AreMembers map.empty
members-empty person = subst IsMemberIfAny (sym (map.get-from_entries nat_list_cmp_total [] person)) tt
