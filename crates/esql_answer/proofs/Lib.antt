mod FewColumns
mod FewTaken
mod Plans
mod Queries
mod ShortQueries
mod ShortTexts
