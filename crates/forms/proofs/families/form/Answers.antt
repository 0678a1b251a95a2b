use Rattle.forms.specs.Families.{form_of}
use Rattle.forms.proofs.families.form.Goals as goal

pub returns-in-Plain : goal.returns-in-Plain
unfolding form_of
returns-in-Plain c = simp c.in-Plain.is c.no_operands.ensures

pub returns-in-Exchange : goal.returns-in-Exchange
unfolding form_of
returns-in-Exchange c = simp c.in-Exchange.is c.classify_exchange.ensures

pub returns-in-Load : goal.returns-in-Load
unfolding form_of
returns-in-Load c = simp c.in-Load.is c.classify_load.ensures

pub returns-in-Store : goal.returns-in-Store
unfolding form_of
returns-in-Store c = simp c.in-Store.is c.classify_store.ensures

pub returns-in-StatusCompare : goal.returns-in-StatusCompare
unfolding form_of
returns-in-StatusCompare c = simp c.in-StatusCompare.is c.classify_status_compare.ensures

pub returns-in-PairedCompare : goal.returns-in-PairedCompare
unfolding form_of
returns-in-PairedCompare c = simp c.in-PairedCompare.is c.no_operands-in-PairedCompare.ensures

pub returns-in-FlagCompare : goal.returns-in-FlagCompare
unfolding form_of
returns-in-FlagCompare c = simp c.in-FlagCompare.is c.classify_flag_compare.ensures

pub returns-in-StoreStatus : goal.returns-in-StoreStatus
unfolding form_of
returns-in-StoreStatus c = simp c.in-StoreStatus.is c.classify_store_status.ensures

pub returns-in-ConditionalMove : goal.returns-in-ConditionalMove
unfolding form_of
returns-in-ConditionalMove c = simp c.in-ConditionalMove.is c.classify_conditional_move.ensures

pub returns-in-IntegerArith : goal.returns-in-IntegerArith
unfolding form_of
returns-in-IntegerArith c = simp c.in-IntegerArith.is c.classify_integer_arith.ensures

pub returns-in-IntegerCompare : goal.returns-in-IntegerCompare
unfolding form_of
returns-in-IntegerCompare c = simp c.in-IntegerCompare.is c.classify_integer_compare.ensures

pub returns-in-Arith : goal.returns-in-Arith
unfolding form_of
returns-in-Arith c = simp c.in-Arith.is c.classify_arith.ensures
