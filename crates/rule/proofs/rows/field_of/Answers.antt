use Rattle.std.proofs.Common.{◌≡◌, ℕ, List, Some, sym, refl, ap, ◌∙◌, lit≤}
use Rattle.rule.specs.declared.field.Field.{Field}
use Rattle.rule.specs.Fields.{field_named}
use Rattle.rule.proofs.rows.field_of.Goals as goal

-- what a name that is this one gives
at : (n this : List ℕ) (f g : Field) → n ≡ this → f ≡ g → Some g ≡ field_named this → Some f ≡ field_named n
at n this f g e h k = ap Some h ∙ k ∙ sym (ap field_named e)

pub returns-in-in_port : goal.returns-in-in_port
unfolding field_named
returns-in-in_port c = at _ _ _ _ c.in-in_port.is (c.new.ensures (lit≤ tt)) refl

pub returns-in-dl_dst : goal.returns-in-dl_dst
unfolding field_named
returns-in-dl_dst c = at _ _ _ _ c.in-dl_dst.is (c.new-in-dl_dst.ensures (lit≤ tt)) refl

pub returns-in-dl_src : goal.returns-in-dl_src
unfolding field_named
returns-in-dl_src c = at _ _ _ _ c.in-dl_src.is (c.new-in-dl_src.ensures (lit≤ tt)) refl

pub returns-in-dl_type : goal.returns-in-dl_type
unfolding field_named
returns-in-dl_type c = at _ _ _ _ c.in-dl_type.is (c.new-in-dl_type.ensures (lit≤ tt)) refl

pub returns-in-vlan_tci : goal.returns-in-vlan_tci
unfolding field_named
returns-in-vlan_tci c = at _ _ _ _ c.in-vlan_tci.is (c.new-in-vlan_tci.ensures (lit≤ tt)) refl

pub returns-in-frag : goal.returns-in-frag
unfolding field_named
returns-in-frag c = at _ _ _ _ c.in-frag.is (c.new-in-frag.ensures (lit≤ tt)) refl

pub returns-in-nw_proto : goal.returns-in-nw_proto
unfolding field_named
returns-in-nw_proto c = at _ _ _ _ c.in-nw_proto.is (c.new-in-nw_proto.ensures (lit≤ tt)) refl

pub returns-in-nw_tos : goal.returns-in-nw_tos
unfolding field_named
returns-in-nw_tos c = at _ _ _ _ c.in-nw_tos.is (c.new-in-nw_tos.ensures (lit≤ tt)) refl

pub returns-in-nw_ttl : goal.returns-in-nw_ttl
unfolding field_named
returns-in-nw_ttl c = at _ _ _ _ c.in-nw_ttl.is (c.new-in-nw_ttl.ensures (lit≤ tt)) refl

pub returns-in-tcp_flags : goal.returns-in-tcp_flags
unfolding field_named
returns-in-tcp_flags c = at _ _ _ _ c.in-tcp_flags.is (c.new-in-tcp_flags.ensures (lit≤ tt)) refl

pub returns-in-nw_src : goal.returns-in-nw_src
unfolding field_named
returns-in-nw_src c = at _ _ _ _ c.in-nw_src.is (c.new-in-nw_src.ensures (lit≤ tt)) refl

pub returns-in-nw_dst : goal.returns-in-nw_dst
unfolding field_named
returns-in-nw_dst c = at _ _ _ _ c.in-nw_dst.is (c.new-in-nw_dst.ensures (lit≤ tt)) refl

pub returns-in-tp_src : goal.returns-in-tp_src
unfolding field_named
returns-in-tp_src c = at _ _ _ _ c.in-tp_src.is (c.new-in-tp_src.ensures (lit≤ tt)) refl

pub returns-in-tp_dst : goal.returns-in-tp_dst
unfolding field_named
returns-in-tp_dst c = at _ _ _ _ c.in-tp_dst.is (c.new-in-tp_dst.ensures (lit≤ tt)) refl
