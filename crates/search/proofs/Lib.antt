pub mod SurveyLaws
pub mod SavingLaws
pub mod StepLaws
pub mod StepsLaws
